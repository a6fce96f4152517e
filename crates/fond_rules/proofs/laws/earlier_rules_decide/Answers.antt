use Rattle.fond_rules.proofs.Earlier.{sure_all, sure_front}
use Rattle.fond_rules.proofs.laws.earlier_rules_decide.Goals as goal

pub returns : goal.returns
returns c = λ task pairs rules number rule. (sure_all task pairs rules number rule, sure_front task pairs rules number rule)
