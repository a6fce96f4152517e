use Rattle.std.proofs.Common.{ℕ, ◌<◌, slice_index_or}
use Rattle.fond_games.specs.Levels.{IsBelow}
use Rattle.fond_games.proofs.graph.unlowered.Given as goal

abbrev pub invariant-loop-node : goal.invariant-loop-node
invariant-loop-node l = (k d : ℕ) → k < l.node-index → IsBelow l.table l.level (slice_index_or l.nodes k d)
