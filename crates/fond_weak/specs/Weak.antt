-- What is found out about a state by looking for a weak plan: steps to a goal, one outcome of an action at each.
use Rattle.std.specs.Prelude.{◌≡◌, ◌<◌, ◌^◌, ℕ, List, [], ◌∷◌, Bool, IsTrue, Some, length, slice_get, Contains}
use Rattle.fond_state.specs.Cubes.{LiesIn}
use Rattle.fond_task.specs.declared.task.Act.{Act}
use Rattle.fond_task.specs.declared.task.Entry.{Entry}
use Rattle.fond_task.specs.declared.task.Task.{Task}
use Rattle.fond_task.specs.Steps.{next_state}
use Rattle.fond_task.specs.Truth.{is_true}
use Rattle.fond_task.specs.declared.rule.Pair.{Pair}
use Rattle.fond_task.specs.Layers.{CubeView, IsSureLayer}
use Rattle.fond_task.specs.Policies.{IsGoal}
use Rattle.fond_layers.specs.Over.{IsOver}
use Rattle.fond_explicit.specs.Answers.{IsPast}
use Rattle.fond_task.specs.declared.plan_step.PlanStep.{PlanStep}
use Rattle.fond_regress.specs.Barred.{IsBarred}
use Rattle.fond_weak.specs.declared.weak.Weak.{Weak}
use Rattle.fond_weak.specs.declared.weak.Weak.TheVariants.{Plan, Unreachable, Spent}

-- a step may be taken in a state, which may be a goal: its action is applicable there, no pair bars it, and the action has its
-- outcome, which leads to the state after it
pub record MayTake (task : Task) (pairs : List Pair) (state : List Bool) (step : PlanStep) (after : List Bool) : Type 0 where
  pub act : Act
  pub has_act : slice_get task.acts step.act ≡ Some act
  pub applicable : IsTrue (is_true state act.pre)
  pub free : ¬ IsBarred pairs step.act state
  pub entries : List Entry
  pub has_outcome : slice_get act.outcomes step.outcome ≡ Some entries
  pub led : after ≡ next_state state entries

-- steps are a weak plan from a state: they may be taken one after the other, and end at a goal
abbrev pub IsWeakPlan : Task → List Pair → List Bool → List PlanStep → Type 0
IsWeakPlan task pairs state [] = IsGoal task state
IsWeakPlan task pairs state (step ∷ steps) = (after : List Bool) × MayTake task pairs state step after × IsWeakPlan task pairs after steps

-- a layer shows that a state is lost, if the layers are sure: it is over the task's atoms and sure above them, it has fewer than
-- 2^32 cubes, and the state lies in one
pub record ShowsLost (task : Task) (layers : List (List CubeView)) (state : List Bool) (layer : List CubeView) : Type 0 where
  pub over : IsOver (length task.atoms) layer
  pub sure : IsSureLayer task layers layer
  pub few : length layer < 2 ^ 32
  pub cube : CubeView
  pub has : Contains layer cube
  pub lies : LiesIn state cube

-- what is found out about a state is right: a weak plan; or a layer that shows that the state is lost; or more states than the
-- limit are reachable from it
abbrev pub IsFound : Task → List (List CubeView) → List Pair → List Bool → ℕ → Weak → Type 0
IsFound task layers pairs state limit (Plan steps) = IsWeakPlan task pairs state steps
IsFound task layers pairs state limit (Unreachable layer) = ShowsLost task layers state layer
IsFound task layers pairs state limit Spent = IsPast task state limit
