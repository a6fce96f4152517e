-- The fates of the nodes of a graph: which are won, by which moves, and which are lost, in which round.
use Rattle.std.specs.Prelude.{◌≡◌, ℕ, ◌<◌, ◌≤◌, ◌==◌, ◌&&◌, ◌||◌, nat_lt, Bool, true, false, List, All, length, slice_index_or, if◌then◌else◌}
use Rattle.std.specs.List.{list_all, list_any}
use Rattle.fond_fixpoint.specs.declared.fate.Fate.{Fate}
use Rattle.fond_fixpoint.specs.declared.fate.Fate.TheVariants.{Open, Goal, Ranked, Fallen}
use Rattle.fond_fixpoint.specs.Moves.{Move, move_at}

-- the fate of a node
abbrev pub fate_of : List Fate → ℕ → Fate
fate_of fates node = slice_index_or fates node Open

-- whether a fate is not decided yet
abbrev pub is_open : Fate → Bool
is_open Open = true
is_open Goal = false
is_open (Ranked rank by) = false
is_open (Fallen round) = false

-- whether a fate is that of a goal
abbrev pub is_marked : Fate → Bool
is_marked Open = false
is_marked Goal = true
is_marked (Ranked rank by) = false
is_marked (Fallen round) = false

-- whether a fate is that of a goal or of a node with a rank
abbrev pub is_won : Fate → Bool
is_won Open = false
is_won Goal = true
is_won (Ranked rank by) = true
is_won (Fallen round) = false

-- whether a fate is that of a node that has not fallen
abbrev pub is_kept : Fate → Bool
is_kept Open = true
is_kept Goal = true
is_kept (Ranked rank by) = true
is_kept (Fallen round) = false

-- whether a fate is that of a goal or of a node with a rank below this one
abbrev pub is_below : ℕ → Fate → Bool
is_below bound Open = false
is_below bound Goal = true
is_below bound (Ranked rank by) = nat_lt rank bound
is_below bound (Fallen round) = false

-- whether a fate is that of a node that fell before this round
abbrev pub fell_before : ℕ → Fate → Bool
fell_before bound Open = false
fell_before bound Goal = false
fell_before bound (Ranked rank by) = false
fell_before bound (Fallen round) = nat_lt round bound

-- whether a fate is that of a node that fell in this round
abbrev pub fell_in : ℕ → Fate → Bool
fell_in now Open = false
fell_in now Goal = false
fell_in now (Ranked rank by) = false
fell_in now (Fallen round) = round == now

-- whether a move wins: if it is unfair, each target is won, and if it is fair, no target has fallen and some is won
abbrev pub wins : List Fate → Move → Bool
wins fates move = if move.unfair then list_all (λ node. is_won (fate_of fates node)) move.targets
    else (list_all (λ node. is_kept (fate_of fates node)) move.targets && list_any (λ node. is_won (fate_of fates node)) move.targets)

-- whether a move earns its source this rank: as `wins`, with goals and nodes of smaller ranks in place of won nodes
abbrev pub earns : ℕ → List Fate → Move → Bool
earns rank fates move = if move.unfair then list_all (λ node. is_below rank (fate_of fates node)) move.targets
    else (list_all (λ node. is_kept (fate_of fates node)) move.targets && list_any (λ node. is_below rank (fate_of fates node)) move.targets)

-- whether a move leads into the nodes that fell in this round or before: some target fell before; or some target fell in
-- this round if the move is unfair, and each target did if it is fair
abbrev pub forces : ℕ → List Fate → Move → Bool
forces round fates move = list_any (λ node. fell_before round (fate_of fates node)) move.targets
    || (if move.unfair then list_any (λ node. fell_in round (fate_of fates node)) move.targets else list_all (λ node. fell_in round (fate_of fates node)) move.targets)

-- a node has earned its rank by the move of this number
pub record IsEarned (moves : List Move) (fates : List Fate) (node rank by : ℕ) : Type 0 where
  pub there : by < length moves
  pub source : (move_at moves by).source ≡ node
  pub earned : earns rank fates (move_at moves by) ≡ true

-- each rank is earned
abbrev pub RanksHold : List Move → List Fate → Type 0
RanksHold moves fates = (node rank by : ℕ) → fate_of fates node ≡ Ranked rank by → IsEarned moves fates node rank by

-- a node is lost in a round if each move out of it leads into what fell then or before
abbrev pub IsLost : List Move → List Fate → ℕ → ℕ → Type 0
IsLost moves fates node round = (number : ℕ) → number < length moves → (move_at moves number).source ≡ node → forces round fates (move_at moves number) ≡ true

-- each node that fell did so before this round, and is lost in its own
abbrev pub FallsHold : List Move → List Fate → ℕ → Type 0
FallsHold moves fates bound = (node round : ℕ) → fate_of fates node ≡ Fallen round → (round < bound) × IsLost moves fates node round

-- each goal has the fate of a goal, and no other node has it
abbrev pub GoalsHold : List Bool → List Fate → Type 0
GoalsHold goals fates = (node : ℕ) → is_marked (fate_of fates node) ≡ slice_index_or goals node false

-- the fates of a graph are settled: each node is a goal, or has earned a rank, or fell in a round and is lost in it
pub record AreSettled (goals : List Bool) (moves : List Move) (fates : List Fate) : Type 0 where
  pub whole : length fates ≡ length goals
  pub goals_hold : GoalsHold goals fates
  pub settled : (node : ℕ) → node < length goals → is_open (fate_of fates node) ≡ false
  pub ranks_hold : RanksHold moves fates
  pub rounds : ℕ
  pub few : rounds ≤ length goals
  pub falls_hold : FallsHold moves fates rounds

-- moves are over this many nodes
abbrev pub AreWithin : ℕ → List Move → Type 0
AreWithin nodes moves = (number : ℕ) → number < length moves → ((move_at moves number).source < nodes) × All (λ node. node < nodes) (move_at moves number).targets
