-- Hops: bounds on how far the nodes of a flat graph are from a target.
use Rattle.std.specs.Prelude.{◌≡◌, ◌⊎◌, ℕ, ◌<◌, List}
use Rattle.fond_games.specs.Walks.{IsInReach}
use Rattle.fond_games.specs.Graphs.{IsEdge}
use Rattle.fond_games.specs.Levels.{level_at, IsBelow}

-- some successor of a node has a level below this one
abbrev pub HasLower : List (List ℕ) → List ℕ → ℕ → ℕ → Type 0
HasLower graph table level node = (after : ℕ) × IsEdge graph node after × IsBelow table level after

-- a table has hops for each node from which the target is in reach, and some successor of each node with hops but the target has fewer
pub record AreHops (graph : List (List ℕ)) (target : ℕ) (table : List ℕ) : Type 0 where
  pub starts : 0 < level_at table target
  pub reaches : (node : ℕ) → IsInReach (IsEdge graph) node target → 0 < level_at table node
  pub falls : (node : ℕ) → 0 < level_at table node → (node ≡ target) ⊎ HasLower graph table (level_at table node) node
