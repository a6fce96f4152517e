-- The edges that are kept in reach of a node without a level, and a tour of them.
use Rattle.std.proofs.Common.{◌≡◌, ℕ, ◌<◌, List, Some, length, slice_get, ap, ◌∙◌, arith}
use Rattle.fond_games.specs.Walks.{Walk, stay, leave}
use Rattle.fond_games.specs.Graphs.{AlwaysGoesOn, IsEdge, HasEdge, IsTourFrom}
use Rattle.fond_games.specs.declared.kind.Kind.{Kind}
use Rattle.fond_games.specs.Levels.{level_at}
use Rattle.fond_games.specs.Keeping.{KeepsEdges}
use Rattle.fond_games.proofs.Tours.{edge_within}
use Rattle.fond_games.proofs.Toured.{knot_edge}
use Rattle.fond_games.proofs.Walking.{begins_with}
use Rattle.fond_lasso.specs.Judged.{IsRooted}

module _ (kinds : List Kind) (graph : List (List ℕ)) (table : List ℕ) (kept : List (List ℕ)) (keeps : KeepsEdges kinds graph table kept) (rooted : IsRooted graph) where
  last_edge : (node : ℕ) (walk : List ℕ) (last : ℕ) → Walk (IsEdge kept) node walk last → level_at table node ≡ 0 → node < length graph → HasEdge kept last
  last_edge node walk last (stay s) none within = (keeps.each s within).goes_on none
  last_edge node walk last (leave s t u rest step more) none within =
      let own = (keeps.each s within).edges t step in
      last_edge t rest u more own.2 (rooted.ends s t own.1)

  -- from a node without a level, an edge is kept out of each node in reach
  pub goes_on : (from : ℕ) → level_at table from ≡ 0 → from < length graph → AlwaysGoesOn kept from
  goes_on from none within node way = last_edge from way.0 node way.1 none within

  -- the knot of a tour is a node
  pub knot_within : (from : ℕ) (nodes : List ℕ) (tour : IsTourFrom kept from nodes) → tour.knot < length graph
  knot_within from nodes tour = let edge = knot_edge kept tour.knot tour.loop tour.is_tour in omega (arith, edge_within kept tour.knot edge.0 edge.1, keeps.long)

-- a tour begins with its knot
pub begins_knotted : (graph : List (List ℕ)) (from : ℕ) (nodes : List ℕ) (tour : IsTourFrom graph from nodes) → slice_get nodes 0 ≡ Some tour.knot
begins_knotted graph from nodes tour =
    let begin = begins_with tour.knot tour.loop tour.knot tour.is_tour.closes in
    ap (λ (ns : List ℕ). slice_get ns 0) (tour.given ∙ begin.1)
