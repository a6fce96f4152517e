-- Parts of a tour: what a walk has visited.
use Rattle.std.specs.Prelude.{◌≡◌, ℕ, ◌<◌, List, [], ◌∷◌, ◌++◌}
use Rattle.fond_games.specs.Walks.{Walk, Follows, IsInReach}
use Rattle.fond_games.specs.Graphs.{IsEdge}
use Rattle.fond_games.specs.Hops.{AreHops}

-- a walk goes on from where it was to where it is now, and then these nodes follow a node in it
pub record VisitsSome (graph : List (List ℕ)) (node : ℕ) (afters : ℕ → Type 0) (from : ℕ) (old new : List ℕ) (at : ℕ) : Type 0 where
  pub more : List ℕ
  pub given : new ≡ old ++ more
  pub walked : Walk (IsEdge graph) from more at
  pub follows : (after : ℕ) → afters after → Follows (new ++ at ∷ []) node after

-- a walk goes on from where it was to where it is now, and then each edge out of a node occurs in it
abbrev pub Visits : List (List ℕ) → ℕ → ℕ → List ℕ → List ℕ → ℕ → Type 0
Visits graph node = VisitsSome graph node (IsEdge graph node)

-- a walk from the knot has each edge out of those nodes in reach that are before this one
pub record IsTouring (graph : List (List ℕ)) (knot node : ℕ) (walk : List ℕ) (at : ℕ) : Type 0 where
  pub walked : Walk (IsEdge graph) knot walk at
  pub full : (before after : ℕ) → before < node → IsInReach (IsEdge graph) knot before → IsEdge graph before after → Follows (walk ++ at ∷ []) before after

-- a search for a recurrent node has come to a knot, with its table; the knot is in reach of those nodes before this one that are in
-- its own reach
pub record IsSeeking (graph : List (List ℕ)) (from knot : ℕ) (back : List ℕ) (node : ℕ) : Type 0 where
  pub reached : IsInReach (IsEdge graph) from knot
  pub table : AreHops graph knot back
  pub seen : (other : ℕ) → other < node → IsInReach (IsEdge graph) knot other → IsInReach (IsEdge graph) other knot
