-- Flat graphs: for each node the list of its successors.
use Rattle.std.specs.Prelude.{◌≡◌, ℕ, ◌<◌, List, [], ◌∷◌, ◌++◌, Contains, length, slice_index_or}
use Rattle.fond_games.specs.Walks.{Walk, Follows, IsInReach}

-- the successors that a graph lists for a node: none if it has no such node
abbrev pub successors_of : List (List ℕ) → ℕ → List ℕ
successors_of graph node = slice_index_or graph node []

-- an edge leads from a node to each of its successors
abbrev pub IsEdge : List (List ℕ) → ℕ → ℕ → Type 0
IsEdge graph node after = Contains (successors_of graph node) after

-- a node has a successor
abbrev pub HasEdge : List (List ℕ) → ℕ → Type 0
HasEdge graph node = (after : ℕ) × IsEdge graph node after

-- each node in reach of a node has a successor
abbrev pub AlwaysGoesOn : List (List ℕ) → ℕ → Type 0
AlwaysGoesOn graph from = (node : ℕ) → IsInReach (IsEdge graph) from node → HasEdge graph node

-- a tour is a closed walk of at least one step, in which each edge out of each of its nodes occurs
pub record IsTour (graph : List (List ℕ)) (knot : ℕ) (loop : List ℕ) : Type 0 where
  pub closes : Walk (IsEdge graph) knot loop knot
  pub moves : 0 < length loop
  pub full : (node after : ℕ) → Contains loop node → IsEdge graph node after → Follows (loop ++ knot ∷ []) node after

-- a node is recurrent if it is in reach of each node in its reach
abbrev pub IsRecurrent : List (List ℕ) → ℕ → Type 0
IsRecurrent graph node = (other : ℕ) → IsInReach (IsEdge graph) node other → IsInReach (IsEdge graph) other node

-- a list of nodes is a tour if it is one of a knot in reach, with the knot at its end again
pub record IsTourFrom (graph : List (List ℕ)) (from : ℕ) (nodes : List ℕ) : Type 0 where
  pub knot : ℕ
  pub loop : List ℕ
  pub reached : IsInReach (IsEdge graph) from knot
  pub is_tour : IsTour graph knot loop
  pub given : nodes ≡ loop ++ knot ∷ []
