use Rattle.std.proofs.Common.{drop}
use Rattle.fond_text.proofs.Earliest.{IsFirstSoFar}
use Rattle.fond_reader.specs.Sides.{StandsInSide}
use Rattle.fond_reader.proofs.side.side_fault.Given as goal

-- the first fault of the trees so far
abbrev pub invariant-loop-tree : goal.invariant-loop-tree
invariant-loop-tree l = IsFirstSoFar (StandsInSide l.trees) (StandsInSide (drop l.tree-index l.trees)) l.first
