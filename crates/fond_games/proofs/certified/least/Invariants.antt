use Rattle.std.proofs.Common.{take}
use Rattle.fond_games.specs.Certified.{IsLeast}
use Rattle.fond_games.proofs.certified.least.Given as goal

abbrev pub invariant-loop-node : goal.invariant-loop-node
invariant-loop-node l = IsLeast (take l.node-index l.nodes) l.table l.least
