use Rattle.std.proofs.Common.{◌≡◌, ℕ, ◌<◌, List, ◌++◌}
use Rattle.fond_games.specs.Walks.{Walk}
use Rattle.fond_games.specs.Graphs.{IsEdge}
use Rattle.fond_games.specs.Levels.{level_at}
use Rattle.fond_games.proofs.hops.walk_down.Given as goal

abbrev pub invariant-loop-node : goal.invariant-loop-node
invariant-loop-node l = record {
  reached : 0 < level_at l.table l.node;
  more : List ℕ;
  given : l.walk.items ≡ l.initial.walk.items ++ more;
  walked : Walk (IsEdge l.graph) l.from more l.node;
}

abbrev pub decreases-loop-node : goal.decreases-loop-node
decreases-loop-node l = level_at l.table l.node
