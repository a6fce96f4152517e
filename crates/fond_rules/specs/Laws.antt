-- The laws of the selected rule and of the earlier rules.
use Rattle.std.specs.Prelude.{◌≡◌, ◌↔◌, ℕ, List, Bool, take, option_map, option_and_then, slice_get}
use Rattle.fond_task.specs.declared.task.Task.{Task}
use Rattle.fond_task.specs.declared.rule.Pair.{Pair}
use Rattle.fond_task.specs.declared.rule.Rule.{Rule}
use Rattle.fond_task.specs.Policies.{selected}
use Rattle.fond_task.specs.Rules.{IsSureRule}
use Rattle.fond_rules.specs.Select.{selected_rule}

-- the policy of the rules chooses the action of the selected rule, and no action if no rule is selected
abbrev pub SelectedRuleIsPolicy : Type 0
SelectedRuleIsPolicy = (rules : List Rule) (state : List Bool) → option_map (λ rule. rule.act) (option_and_then (λ number. slice_get rules number) (selected_rule rules state)) ≡ selected rules state

-- whether a rule of a number is sure depends on the rules of smaller numbers alone
abbrev pub EarlierRulesDecide : Type 0
EarlierRulesDecide = (task : Task) (pairs : List Pair) (rules : List Rule) (number : ℕ) (rule : Rule) → IsSureRule task pairs (take number rules) number rule ↔ IsSureRule task pairs rules number rule
