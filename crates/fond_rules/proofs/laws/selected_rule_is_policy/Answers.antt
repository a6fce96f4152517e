use Rattle.std.proofs.Common.{ap}
use Rattle.std.specs.Prelude.{option_map}
use Rattle.fond_state.specs.Cubes.{lies_in}
use Rattle.fond_rules.proofs.First.{found_first}
use Rattle.fond_rules.proofs.laws.selected_rule_is_policy.Goals as goal

pub returns : goal.returns
returns c = λ rules state. ap (option_map (λ rule. rule.act)) (found_first (λ rule. lies_in state rule.cond) rules)
