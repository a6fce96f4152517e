-- Turns: reachable states that are no goals, each with an applicable action.
use Rattle.std.specs.Prelude.{◌≡◌, List, Bool, IsTrue, Some, slice_get, Contains}
use Rattle.fond_task.specs.Truth.{is_true}
use Rattle.fond_task.specs.declared.task.Act.{Act}
use Rattle.fond_task.specs.declared.task.Entry.{Entry}
use Rattle.fond_task.specs.declared.task.Task.{Task}
use Rattle.fond_task.specs.Policies.{IsGoal}
use Rattle.fond_task.specs.declared.plan_step.PlanStep.{PlanStep}
use Rattle.fond_explicit.specs.Answers.{ChoiceView, IsReachable}

-- states are reachable from the initial state, by any actions
abbrev pub AreReachable : Task → List (List Bool) → Type 0
AreReachable task states = (state : List Bool) → Contains states state → IsReachable task task.init state

-- a step leads on from a state: the state is no goal, and the action of the step is applicable in it and has its outcome
pub record LeadsFrom (task : Task) (state : List Bool) (step : PlanStep) : Type 0 where
  pub open_ : ¬ IsGoal task state
  pub act : Act
  pub has_act : slice_get task.acts step.act ≡ Some act
  pub applicable : IsTrue (is_true state act.pre)
  pub entries : List Entry
  pub has_outcome : slice_get act.outcomes step.outcome ≡ Some entries

-- a choice is a turn, whatever its rank is: its state is reachable and no goal, and its action is applicable in it
pub record IsTurn (task : Task) (turn : ChoiceView) : Type 0 where
  pub reachable : IsReachable task task.init turn.state
  pub open_ : ¬ IsGoal task turn.state
  pub act : Act
  pub has_act : slice_get task.acts turn.act ≡ Some act
  pub applicable : IsTrue (is_true turn.state act.pre)

-- choices are turns
abbrev pub AreTurns : Task → List ChoiceView → Type 0
AreTurns task turns = (turn : ChoiceView) → Contains turns turn → IsTurn task turn
