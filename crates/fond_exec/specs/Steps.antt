-- One step of a rule list from a state, by the number of an outcome.
use Rattle.std.specs.Prelude.{◌≡◌, ℕ, ◌≤◌, List, Bool, true, Some, slice_get, length}
use Rattle.fond_task.specs.declared.task.Act.{Act}
use Rattle.fond_task.specs.declared.task.Entry.{Entry}
use Rattle.fond_task.specs.declared.task.Task.{Task}
use Rattle.fond_task.specs.Steps.{next_state}
use Rattle.fond_task.specs.Truth.{is_true}
use Rattle.fond_task.specs.declared.rule.Rule.{Rule}
use Rattle.fond_task.specs.Policies.{IsGoal, IsApplicable, selected}
use Rattle.fond_rules.specs.Select.{selected_rule}
use Rattle.fond_exec.specs.declared.step.Step.{Step}
use Rattle.fond_exec.specs.declared.step.Step.TheVariants.{Took, Done, Stuck, BadOutcome}

-- the first rule that holds in a state has this action, which is applicable there
pub record IsChosen (task : Task) (rules : List Rule) (state : List Bool) (number : ℕ) (act : Act) : Type 0 where
  pub selects : selected rules state ≡ Some number
  pub numbered : slice_get task.acts number ≡ Some act
  pub holds : is_true state act.pre ≡ true

-- no rule holds in a state, or the action of the first one that holds is not applicable there
abbrev pub IsStuck : Task → List Rule → List Bool → Type 0
IsStuck task rules state = (number : ℕ) → selected rules state ≡ Some number → ¬ IsApplicable task state number

-- in a state that is no goal, the first rule that holds and its action, by their numbers, lead to this state by the
-- outcome of this number
pub record IsTaken (task : Task) (rules : List Rule) (state : List Bool) (outcome rule number : ℕ) (after : List Bool) : Type 0 where
  pub open_ : ¬ IsGoal task state
  pub selects : selected_rule rules state ≡ Some rule
  pub act : Act
  pub chosen : IsChosen task rules state number act
  pub entries : List Entry
  pub picked : slice_get act.outcomes outcome ≡ Some entries
  pub given : after ≡ next_state state entries

-- the answer of a step, and the state after it: the state is a goal; it is no goal and stuck; it is no goal, and the
-- chosen action has no outcome of this number; or the outcome leads to the state after the step
abbrev pub IsStep : Task → List Rule → List Bool → ℕ → Step → List Bool → Type 0
IsStep task rules state outcome Done after = IsGoal task state × (after ≡ state)
IsStep task rules state outcome Stuck after = (¬ IsGoal task state) × IsStuck task rules state × (after ≡ state)
IsStep task rules state outcome (BadOutcome count) after =
    (¬ IsGoal task state) × ((number : ℕ) × (act : Act) × IsChosen task rules state number act × (count ≡ length act.outcomes)) × (count ≤ outcome) × (after ≡ state)
IsStep task rules state outcome (Took rule number) after = IsTaken task rules state outcome rule number after
