use Rattle.std.proofs.Common.{refl}
use Rattle.std.proofs.lemmas.Bool.{false≢true}
use Rattle.fond_layers.proofs.Forced.{forced_again, forced_or_earlier}
use Rattle.fond_layers.proofs.force.forces.Goals as goal

pub returns-then-leads_again-clause-decides : goal.returns-then-leads_again-clause-decides
returns-then-leads_again-clause-decides c =
    (λ e. forced_again c.args.earlier.now c.args.layer.now c.args.cube.now c.args.act.now (c.if-leads_again.ensures.decides.0 refl), λ forced. refl)

pub returns-clause-decides : goal.returns-clause-decides
returns-clause-decides c =
    forced_or_earlier c.args.earlier.now c.args.layer.now c.args.cube.now c.args.act.now c.leads_earlier.result (λ again. false≢true (c.if-leads_again.ensures.decides.1 again)) c.leads_earlier.ensures.decides
