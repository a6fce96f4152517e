use Rattle.std.proofs.Common.{take}
use Rattle.fond_games.specs.Certified.{IsHighest}
use Rattle.fond_games.proofs.certified.greatest.Given as goal

abbrev pub invariant-loop-node : goal.invariant-loop-node
invariant-loop-node l = IsHighest (take l.node-index l.nodes) l.table l.greatest
