use Rattle.std.proofs.Common.{List, [], subst}
use Rattle.fond_task.specs.declared.rule.Pair.{Pair}
use Rattle.fond_policy.specs.Parts.{AreSureRules}
use Rattle.fond_best.proofs.rate.rule_fault.Goals as goal

pub returns : goal.returns
returns c =
    let P : List Pair → Type 0 = λ pairs. AreSureRules c.args.t.now pairs c.args.cert.now.rules in
    record { layers_sure = rw c.in-None.is at c.in_ok-layer.ensures; rules_sure = subst P c.new-2.ensures c.in-None-first_bad_rule.ensures.first }
