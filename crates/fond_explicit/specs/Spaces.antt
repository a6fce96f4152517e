-- How a graph stands for the states of a task.
use Rattle.std.specs.Prelude.{◌≡◌, ℕ, ◌<◌, ◌≤◌, ◌&&◌, ◌||◌, nat_le, ⊤, List, [], ◌∷◌, Bool, true, false, Some, Contains, length, map, slice_get, slice_index_or}
use Rattle.fond_text.specs.Lists.{AreDistinct}
use Rattle.fond_state.specs.Cubes.{full_cube}
use Rattle.fond_task.specs.declared.task.Act.{Act}
use Rattle.fond_task.specs.declared.task.Entry.{Entry}
use Rattle.fond_task.specs.declared.task.Task.{Task}
use Rattle.fond_task.specs.Truth.{is_true}
use Rattle.fond_task.specs.Steps.{next_state}
use Rattle.fond_task.specs.Policies.{IsGoal}
use Rattle.fond_task.specs.Layers.{CubeView}
use Rattle.fond_fixpoint.specs.declared.fate.Fate.{Fate}
use Rattle.fond_fixpoint.specs.declared.fate.Fate.TheVariants.{Ranked, Fallen}
use Rattle.fond_fixpoint.specs.Moves.{Move, move_at}
use Rattle.fond_fixpoint.specs.Fates.{fate_of}
use Rattle.fond_explicit.specs.Answers.{ChoiceView, IsReachable}

-- the outcomes lead from a state to the nodes of these numbers, one after the other
abbrev pub AreNexts : List (List Bool) → List Bool → List ℕ → List (List Entry) → Type 0
AreNexts states state [] [] = ⊤
AreNexts states state [] (outcome ∷ outcomes) = ⊥
AreNexts states state (node ∷ nodes) [] = ⊥
AreNexts states state (node ∷ nodes) (outcome ∷ outcomes) = (slice_get states node ≡ Some (next_state state outcome)) × AreNexts states state nodes outcomes

-- a move stands for an action that is applicable in the state of its source, and its targets for the next states
pub record IsMoveOf (task : Task) (states : List (List Bool)) (move : Move) : Type 0 where
  pub state : List Bool
  pub has_state : slice_get states move.source ≡ Some state
  pub act : Act
  pub has_act : slice_get task.acts move.act ≡ Some act
  pub holds : is_true state act.pre ≡ true
  pub flagged : move.unfair ≡ act.unfair
  pub leads : AreNexts states state move.targets act.outcomes

-- some move of a node leads where an action leads from its state, and is as fair as the action
pub record HasMove (states : List (List Bool)) (moves : List Move) (node : ℕ) (state : List Bool) (act : Act) : Type 0 where
  pub number : ℕ
  pub there : number < length moves
  pub source : (move_at moves number).source ≡ node
  pub flagged : (move_at moves number).unfair ≡ act.unfair
  pub leads : AreNexts states state (move_at moves number).targets act.outcomes

-- a node is opened if its state is a goal, or for each action that is applicable in the state some move leads where it leads
abbrev pub IsOpened : Task → List (List Bool) → List Move → ℕ → Type 0
IsOpened task states moves node = (state : List Bool) → slice_get states node ≡ Some state → ¬ IsGoal task state →
    (number : ℕ) (act : Act) → slice_get task.acts number ≡ Some act → is_true state act.pre ≡ true → HasMove states moves node state act

-- states that are reachable from the first, with moves among them, of which so many are opened
pub record IsSpace (task : Task) (from : List Bool) (states : List (List Bool)) (moves : List Move) (opened : ℕ) : Type 0 where
  pub first : slice_get states 0 ≡ Some from
  pub long : (node : ℕ) (state : List Bool) → slice_get states node ≡ Some state → length state ≡ length task.atoms
  pub reachable : (node : ℕ) (state : List Bool) → slice_get states node ≡ Some state → IsReachable task from state
  pub played : (number : ℕ) → number < length moves → IsMoveOf task states (move_at moves number)
  pub within : opened ≤ length states
  pub opened_first : (node : ℕ) → node < opened → IsOpened task states moves node

-- a cube is that of the state of one of the first nodes, which fell in this round
pub record IsFallen (states : List (List Bool)) (fates : List Fate) (nodes round : ℕ) (cube : CubeView) : Type 0 where
  pub node : ℕ
  pub early : node < nodes
  pub state : List Bool
  pub has_state : slice_get states node ≡ Some state
  pub fell : fate_of fates node ≡ Fallen round
  pub full : cube ≡ full_cube state

-- the layer of a number, which is empty if there is none
abbrev pub layer_at : List (List CubeView) → ℕ → List CubeView
layer_at layers number = slice_index_or layers number []

-- layers are the rounds of the first nodes: the layer of a number has, once each, the full cubes of the states of those that
-- fell in that round
pub record AreRounds (states : List (List Bool)) (fates : List Fate) (nodes : ℕ) (layers : List (List CubeView)) : Type 0 where
  pub sound : (round : ℕ) (cube : CubeView) → Contains (layer_at layers round) cube → IsFallen states fates nodes round cube
  pub whole : (node round : ℕ) (state : List Bool) → node < nodes → slice_get states node ≡ Some state → fate_of fates node ≡ Fallen round → Contains (layer_at layers round) (full_cube state)
  pub once : (round : ℕ) → AreDistinct (layer_at layers round)
  pub small : (round : ℕ) → length (layer_at layers round) ≤ nodes

-- a choice is that of one of the first nodes, with a rank: its state, the action of the move that earned the rank, and the rank
pub record IsRanked (states : List (List Bool)) (moves : List Move) (fates : List Fate) (nodes : ℕ) (choice : ChoiceView) : Type 0 where
  pub node : ℕ
  pub early : node < nodes
  pub by : ℕ
  pub has_state : slice_get states node ≡ Some choice.state
  pub ranked : fate_of fates node ≡ Ranked choice.rank by
  pub takes : choice.act ≡ (move_at moves by).act

-- choices are the ranks of the first nodes: those of the nodes with a rank, once each
pub record AreRanks (states : List (List Bool)) (moves : List Move) (fates : List Fate) (nodes : ℕ) (choices : List ChoiceView) : Type 0 where
  pub sound : (choice : ChoiceView) → Contains choices choice → IsRanked states moves fates nodes choice
  pub whole : (node rank by : ℕ) (state : List Bool) → node < nodes → slice_get states node ≡ Some state → fate_of fates node ≡ Ranked rank by →
      (choice : ChoiceView) × Contains choices choice × (choice.state ≡ state) × (choice.rank ≡ rank)
  pub once : AreDistinct (map (λ choice. choice.state) choices)

-- goals of a graph are those of the task, and with them, if so wanted, the nodes that are not opened
abbrev pub AreGoals : Task → List (List Bool) → ℕ → Bool → List Bool → Type 0
AreGoals task states opened hopeful goals = (node : ℕ) (state : List Bool) → slice_get states node ≡ Some state → slice_index_or goals node false ≡ (is_true state task.goal || (hopeful && nat_le opened node))

-- goals of a graph are at least those of the task, and a node that is no goal is opened
abbrev pub AreHopeful : Task → List (List Bool) → ℕ → List Bool → Type 0
AreHopeful task states opened goals = (node : ℕ) (state : List Bool) → slice_get states node ≡ Some state → slice_index_or goals node false ≡ false → (node < opened) × (¬ IsGoal task state)

-- each goal of a graph is a goal of the task
abbrev pub AreSound : Task → List (List Bool) → List Bool → Type 0
AreSound task states goals = (node : ℕ) (state : List Bool) → slice_get states node ≡ Some state → slice_index_or goals node false ≡ true → IsGoal task state
