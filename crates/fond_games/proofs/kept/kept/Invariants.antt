use Rattle.std.proofs.Common.{◌≡◌, ℕ, ◌<◌, length}
use Rattle.fond_games.specs.Graphs.{successors_of}
use Rattle.fond_games.specs.Keeping.{KeptAt}
use Rattle.fond_games.proofs.kept.kept.Given as goal

abbrev pub invariant-loop-node : goal.invariant-loop-node
invariant-loop-node l = record {
  long : length l.edges ≡ l.node;
  each : (node : ℕ) → node < l.node → KeptAt l.kinds l.graph l.table node (successors_of l.edges node);
}
