-- What is found out about flat games in which each node is in reach of the first.
use Rattle.std.specs.Prelude.{◌≡◌, ◌<◌, ℕ, List, [], ◌∷◌, ◌++◌, length}
use Rattle.fond_games.specs.declared.kind.Kind.{Kind}
use Rattle.fond_games.specs.Graphs.{IsEdge, IsTourFrom}
use Rattle.fond_games.specs.Keeping.{KeepsEdges}
use Rattle.fond_games.specs.Levels.{AreLevels, level_at}
use Rattle.fond_games.specs.Walks.{Walk, IsInReach}
use Rattle.fond_lasso.specs.declared.judge.Judged.{Judged}
use Rattle.fond_lasso.specs.declared.judge.Judged.TheVariants.{Levelled, Held}

-- all edges of a graph lead to its nodes, and each of them is in reach of the first
pub record IsRooted (graph : List (List ℕ)) : Type 0 where
  pub ends : (node after : ℕ) → IsEdge graph node after → after < length graph
  pub reaches : (node : ℕ) → node < length graph → IsInReach (IsEdge graph) 0 node

-- a stem is a walk from the first node to a target, with the target at its end
abbrev pub IsStem : List (List ℕ) → ℕ → List ℕ → Type 0
IsStem graph target stem = (walk : List ℕ) × (stem ≡ walk ++ target ∷ []) × Walk (IsEdge graph) 0 walk target

-- each node of a table has a level
abbrev pub AreAllLevelled : List ℕ → Type 0
AreAllLevelled table = (node : ℕ) → node < length table → 0 < level_at table node

-- chance and an opponent can hold a play in a cycle: it is a tour of the edges that are kept in reach of a node without a level, with a
-- stem to its knot
pub record IsHeld (kinds : List Kind) (graph : List (List ℕ)) (stem cycle : List ℕ) : Type 0 where
  pub table : List ℕ
  pub levels : AreLevels kinds graph table
  pub kept : List (List ℕ)
  pub keeps : KeepsEdges kinds graph table kept
  pub from : ℕ
  pub tour : IsTourFrom kept from cycle
  pub stemmed : IsStem graph tour.knot stem

-- each node of a flat game has a level, or a play can be held
abbrev pub IsJudged : List Kind → List (List ℕ) → Judged → Type 0
IsJudged kinds graph (Levelled levels) = AreLevels kinds graph levels.items × AreAllLevelled levels.items
IsJudged kinds graph (Held stem cycle) = IsHeld kinds graph stem.items cycle.items
