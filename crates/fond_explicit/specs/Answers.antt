-- What is found out about a task from a state on.
use Rattle.std.specs.Prelude.{◌≡◌, ◌⊎◌, ℕ, ◌<◌, List, Bool, Contains, map, ⊤}
use Rattle.std.specs.List.{flat_map}
use Rattle.fond_text.specs.Lists.{AreDistinct}
use Rattle.fond_state.specs.Games as games
use Rattle.fond_state.specs.Games.{Game}
use Rattle.fond_state.specs.Cubes.{full_cube}
use Rattle.fond_task.specs.declared.task.Task.{Task}
use Rattle.fond_task.specs.Policies.{IsGoal, IsApplicable, IsNext, IsUnfair, game}
use Rattle.fond_task.specs.Layers.{CubeView, AreSureLayers}
use Rattle.fond_task.specs.Certificates.{LiesInLayers}
use Rattle.fond_explicit.specs.declared.answer.Pick.{Pick}
use Rattle.fond_explicit.specs.declared.answer.Solved.{Solved}
use Rattle.fond_explicit.specs.declared.answer.Solved.TheVariants.{Won, Lost, Spent}

-- the game of a task from a state on
abbrev pub game_from : Task → List Bool → Game (List Bool) ℕ
game_from task from = record (game task) { first = from }

-- a state is reachable from a state: some walk by any actions, out of states that are no goals, ends in it
abbrev pub IsReachable : Task → List Bool → List Bool → Type 0
IsReachable task from state = games.Walked (game_from task from) (λ one action. ⊤) state

-- more than this many states are reachable from a state
abbrev pub IsPast : Task → List Bool → ℕ → Type 0
IsPast task from bound = games.More (game_from task from) bound

-- a choice of an action in a state, with a rank
abbrev pub ChoiceView : Type 0
ChoiceView = Pick

-- a state has a choice
pub record HasChoice (choices : List ChoiceView) (state : List Bool) : Type 0 where
  pub choice : ChoiceView
  pub one : Contains choices choice
  pub here : choice.state ≡ state

-- a state has a choice of a rank below this one
pub record HasSmaller (choices : List ChoiceView) (rank : ℕ) (state : List Bool) : Type 0 where
  pub choice : ChoiceView
  pub one : Contains choices choice
  pub here : choice.state ≡ state
  pub smaller : choice.rank < rank

-- a state is a goal, or has a choice
abbrev pub IsHeld : Task → List ChoiceView → List Bool → Type 0
IsHeld task choices state = IsGoal task state ⊎ HasChoice choices state

-- a state is a goal, or has a choice of a rank below this one
abbrev pub IsNearer : Task → List ChoiceView → ℕ → List Bool → Type 0
IsNearer task choices rank state = IsGoal task state ⊎ HasSmaller choices rank state

-- a choice among choices wins: its state is reachable; its action is applicable there and leads only to goals and states
-- with a choice; if the action is fair, it may lead to a goal or to a state of a smaller rank; and if it is unfair, it
-- leads only to such states
pub record IsWinning (task : Task) (from : List Bool) (choices : List ChoiceView) (choice : ChoiceView) : Type 0 where
  pub reachable : IsReachable task from choice.state
  pub applicable : IsApplicable task choice.state choice.act
  pub closed : (after : List Bool) → IsNext task choice.state choice.act after → IsHeld task choices after
  pub fair : ¬ IsUnfair task choice.act → (after : List Bool) × IsNext task choice.state choice.act after × IsNearer task choices choice.rank after
  pub unfair : IsUnfair task choice.act → (after : List Bool) → IsNext task choice.state choice.act after → IsNearer task choices choice.rank after

-- choices win from a state: the state is a goal or has a choice, no two choices are in the same state, and each wins
pub record AreWinning (task : Task) (from : List Bool) (choices : List ChoiceView) : Type 0 where
  pub start : IsHeld task choices from
  pub once : AreDistinct (map (λ choice. choice.state) choices)
  pub each : (choice : ChoiceView) → Contains choices choice → IsWinning task from choices choice

-- a cube is the full cube of a state that is reachable from this one
pub record IsReachableCube (task : Task) (from : List Bool) (cube : CubeView) : Type 0 where
  pub state : List Bool
  pub reachable : IsReachable task from state
  pub full : cube ≡ full_cube state

-- layers are stuck: they are sure, each of their cubes is the full cube of a state that is reachable from this one, and no
-- two of the cubes are equal
pub record AreStuck (task : Task) (from : List Bool) (layers : List (List CubeView)) : Type 0 where
  pub sure : AreSureLayers task layers
  pub each : (layer : List CubeView) → Contains layers layer → (cube : CubeView) → Contains layer cube → IsReachableCube task from cube
  pub once : AreDistinct (flat_map (λ layer. layer) layers)

-- an answer about a task from a state on, for a budget, is right: choices that win and layers that are stuck; or layers that
-- are stuck, one of which has the state; or more states are reachable than the budget
abbrev pub IsRight : Task → List Bool → ℕ → Solved → Type 0
IsRight task from budget (Won choices layers) = AreWinning task from choices × AreStuck task from layers
IsRight task from budget (Lost layers) = AreStuck task from layers × LiesInLayers from layers
IsRight task from budget Spent = IsPast task from budget
