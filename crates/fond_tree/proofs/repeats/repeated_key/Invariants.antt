use Rattle.std.proofs.Common.{false, length}
use Rattle.fond_tree.specs.Trees.{leaf_of}
use Rattle.fond_tree.specs.FormFaults.{keys}
use Rattle.fond_tree.proofs.Again.{Again}
use Rattle.fond_text.proofs.Earliest.{IsFirstSoFar}
use Rattle.fond_tree.proofs.repeats.repeated_key.Given as goal

-- the first repeated key so far
abbrev pub invariant-loop-rest : goal.invariant-loop-rest
invariant-loop-rest l = IsFirstSoFar (Again leaf_of l.key false (keys l.pairs)) (Again leaf_of l.key l.seen (keys l.rest)) l.first

abbrev pub decreases-loop-rest : goal.decreases-loop-rest
decreases-loop-rest l = length l.rest
