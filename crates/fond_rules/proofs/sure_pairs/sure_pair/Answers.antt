use Rattle.fond_rules.proofs.SureTargets.{sure_if_leads, leads_if_sure}
use Rattle.fond_rules.proofs.sure_pairs.sure_pair.Goals as goal

pub returns-clause-decides : goal.returns-clause-decides
returns-clause-decides c = λ layers layer at there.
    let task = c.args.t.now in
    let dead = c.args.dead.now in
    let pair = c.args.p.now in
    (λ e. sure_if_leads task layers layer dead pair at there (c.passes.ensures.decides.0 e), λ sure. c.passes.ensures.decides.1 (leads_if_sure task layers layer dead pair at there sure))
