-- What is found out about a task by opening all states.
use Rattle.std.specs.Prelude.{◌≡◌, ◌⊎◌, ℕ, List, Bool, Contains, map}
use Rattle.fond_text.specs.Lists.{AreDistinct}
use Rattle.fond_task.specs.declared.task.Task.{Task}
use Rattle.fond_task.specs.Policies.{IsGoal}
use Rattle.fond_task.specs.Layers.{CubeView}
use Rattle.fond_task.specs.Certificates.{LiesInLayers}
use Rattle.fond_explicit.specs.Answers.{ChoiceView, HasChoice, IsReachable, IsWinning, AreStuck, IsPast}
use Rattle.fond_explicit.specs.declared.whole.Whole.{Whole}
use Rattle.fond_explicit.specs.declared.whole.Whole.TheVariants.{Split, Spent}

-- choices and layers split a task: no two choices are in the same state, and each wins from the initial state, which need not be
-- a goal or have a choice itself; the layers are stuck; and each reachable state that is no goal has a choice or lies in a layer
pub record IsSplit (task : Task) (choices : List ChoiceView) (layers : List (List CubeView)) : Type 0 where
  pub once : AreDistinct (map (λ choice. choice.state) choices)
  pub each : (choice : ChoiceView) → Contains choices choice → IsWinning task task.init choices choice
  pub stuck : AreStuck task task.init layers
  pub whole : (state : List Bool) → IsReachable task task.init state → ¬ IsGoal task state → HasChoice choices state ⊎ LiesInLayers state layers

-- an answer about a whole task, for a budget, is right: choices and layers that split it; or more states are reachable than the budget
abbrev pub IsWhole : Task → ℕ → Whole → Type 0
IsWhole task budget (Split choices layers) = IsSplit task choices layers
IsWhole task budget Spent = IsPast task task.init budget
