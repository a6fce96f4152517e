use Rattle.std.proofs.Common.{subst, Decides}
use Rattle.fond_task.specs.Layers.{CubeView}
use Rattle.fond_rules.specs.Leans.{IsLean}
use Rattle.fond_rules.specs.Targets.{LeadsInto}
use Rattle.fond_rules.proofs.SureTargets.{lean_if_leads, leads_if_lean}
use Rattle.fond_rules.proofs.sure_pairs.lean_pair.Goals as goal

pub returns-clause-decides : goal.returns-clause-decides
returns-clause-decides c = λ layers layer at there.
    let task = c.args.t.now in
    let dead = c.args.dead.now in
    let pair = c.args.p.now in
    let Leads : CubeView → Type 0 = λ cond. LeadsInto task dead (record pair { cond = cond }) in
    let P : CubeView → Type 0 = λ cond. Decides c.is_lean.result (IsLean Leads cond) in
    let decides = subst P c.copy_from.ensures c.is_lean.ensures.decides in
    (λ e. lean_if_leads task layers layer dead pair at there (decides.0 e), λ lean. decides.1 (leads_if_lean task layers layer dead pair at there lean))
