-- The rule that a rule list selects in a state.
use Rattle.std.specs.Prelude.{◌≡◌, ℕ, List, Bool, Option, length, position, All}
use Rattle.fond_state.specs.Cubes.{lies_in}
use Rattle.fond_task.specs.declared.rule.Rule.{Rule}

-- the number of the first rule whose literals all hold in the state, if there is one
abbrev pub selected_rule : List Rule → List Bool → Option ℕ
selected_rule rules state = position (λ rule. lies_in state rule.cond) rules

-- the conditions of all rules are over this many atoms
abbrev pub AreOver : ℕ → List Rule → Type 0
AreOver atoms rules = All (λ rule. length rule.cond ≡ atoms) rules
