use Rattle.std.proofs.Common.{ℕ, ◌<◌, slice_index_or}
use Rattle.fond_games.specs.Levels.{level_at}
use Rattle.fond_games.proofs.graph.unlevelled.Given as goal

abbrev pub invariant-loop-node : goal.invariant-loop-node
invariant-loop-node l = (k d : ℕ) → k < l.node-index → 0 < level_at l.table (slice_index_or l.nodes k d)
