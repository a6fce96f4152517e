-- Flat graphs of kept edges.
use Rattle.std.specs.Prelude.{◌≡◌, ℕ, ◌<◌, List, Some, Contains, length, slice_get}
use Rattle.fond_games.specs.declared.kind.Kind.{Kind}
use Rattle.fond_games.specs.declared.kind.Kind.TheVariants.{Goal, Fair}
use Rattle.fond_games.specs.Levels.{kind_at, level_at}
use Rattle.fond_state.specs.Games.{Game, Policy}
use Rattle.fond_games.specs.Graphs.{IsEdge, HasEdge, successors_of}
use Rattle.fond_games.specs.Lassos.{Step}

-- a graph over the numbers of states keeps edges of a policy if each edge is a step of the policy, out of a state with an edge there
-- is one to each next state of a fair choice, and there is an edge out of each node that an edge leads to
pub record IsKept {S A : Type 0} (game : Game S A) (policy : Policy S A) (states : List S) (graph : List (List ℕ)) : Type 0 where
  pub long : length graph ≡ length states
  pub steps : (node after : ℕ) (state : S) → IsEdge graph node after → slice_get states node ≡ Some state → (other : S) × (slice_get states after ≡ Some other) × Step game policy state other
  pub fair : (node end : ℕ) (state : S) (choice : A) (other : S) → IsEdge graph node end → slice_get states node ≡ Some state → policy state ≡ Some choice → ¬ game.IsUnfair choice → game.IsNext state choice other → (after : ℕ) × IsEdge graph node after × (slice_get states after ≡ Some other)
  pub goes_on : (node after : ℕ) → IsEdge graph node after → HasEdge graph after

-- there is an edge out of each node that is no goal
abbrev pub MovesOn : List Kind → List (List ℕ) → Type 0
MovesOn kinds graph = (node : ℕ) → node < length graph → ¬ (kind_at kinds node ≡ Goal) → HasEdge graph node

-- the edges that are kept out of a node lead from a node without a level to such nodes; of a fair one without a level they
-- are all edges, and of any other without a level there is at least one
pub record KeptAt (kinds : List Kind) (graph : List (List ℕ)) (table : List ℕ) (node : ℕ) (kept : List ℕ) : Type 0 where
  pub edges : (after : ℕ) → Contains kept after → (level_at table node ≡ 0) × IsEdge graph node after × (level_at table after ≡ 0)
  pub fair : (after : ℕ) → level_at table node ≡ 0 → kind_at kinds node ≡ Fair → IsEdge graph node after → Contains kept after
  pub goes_on : level_at table node ≡ 0 → (after : ℕ) × Contains kept after

-- the edges of a flat game that are kept
pub record KeepsEdges (kinds : List Kind) (graph : List (List ℕ)) (table : List ℕ) (kept : List (List ℕ)) : Type 0 where
  pub long : length kept ≡ length graph
  pub each : (node : ℕ) → node < length graph → KeptAt kinds graph table node (successors_of kept node)
