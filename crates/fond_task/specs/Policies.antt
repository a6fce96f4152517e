-- The moves of the game, policies, and the states that a policy reaches.
use Rattle.std.specs.Prelude.{◌≡◌, ℕ, List, Bool, true, IsTrue, Some, option_map, slice_get, Contains, find}
use Rattle.fond_state.specs.Games as games
use Rattle.fond_state.specs.Games.{Game}
pub use Rattle.fond_state.specs.Games.{start, onward}
use Rattle.fond_state.specs.Cubes.{lies_in}
use Rattle.fond_task.specs.declared.task.Act.{Act}
use Rattle.fond_task.specs.declared.task.Entry.{Entry}
use Rattle.fond_task.specs.declared.task.Task.{Task}
use Rattle.fond_task.specs.Truth.{is_true}
use Rattle.fond_task.specs.Steps.{next_state}
use Rattle.fond_task.specs.declared.rule.Rule.{Rule}

-- a state is a goal: the goal of the task is true in it
abbrev pub IsGoal : Task → List Bool → Type 0
IsGoal task state = IsTrue (is_true state task.goal)

-- an action is applicable in a state: the task has it, and its precondition is true in the state
pub record IsApplicable (task : Task) (state : List Bool) (number : ℕ) : Type 0 where
  pub act : Act
  pub numbered : slice_get task.acts number ≡ Some act
  pub holds : IsTrue (is_true state act.pre)

-- a state is one that an action may lead to: the action is applicable, and one of its outcomes gives the state
pub record IsNext (task : Task) (state : List Bool) (number : ℕ) (after : List Bool) : Type 0 where
  pub act : Act
  pub numbered : slice_get task.acts number ≡ Some act
  pub holds : IsTrue (is_true state act.pre)
  pub outcome : List Entry
  pub one : Contains act.outcomes outcome
  pub given : after ≡ next_state state outcome

-- an action is unfair: an opponent picks its outcome, and not chance
pub record IsUnfair (task : Task) (number : ℕ) : Type 0 where
  pub act : Act
  pub numbered : slice_get task.acts number ≡ Some act
  pub flagged : act.unfair ≡ true

-- the game of a ground task: its states are lists of truth values, its actions numbers
abbrev pub game : Task → Game (List Bool) ℕ
game task = record {
  first = task.init;
  IsGoal = IsGoal task;
  IsApplicable = IsApplicable task;
  IsNext = IsNext task;
  IsUnfair = IsUnfair task;
}

-- a policy chooses an action in a state, by its number, or none
abbrev pub Policy : Type 0
Policy = games.Policy (List Bool) ℕ

-- a policy is a finite map if some list has each state in which it chooses an action
abbrev pub IsFiniteMap : Policy → Type 0
IsFiniteMap = games.IsFiniteMap

-- the policy of a rule list chooses the action of the first rule whose literals all hold in the state
abbrev pub selected : List Rule → Policy
selected rules state = option_map (λ rule. rule.act) (find (λ rule. lies_in state rule.cond) rules)

-- the states that a policy reaches: the initial state, and from each reached state that is no goal, the states to
-- which the chosen action may lead
abbrev pub Reach : Task → Policy → List Bool → Type 0
Reach task = games.Reach (game task)
