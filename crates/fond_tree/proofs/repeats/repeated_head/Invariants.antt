use Rattle.std.proofs.Common.{false, drop}
use Rattle.fond_tree.specs.Trees.{head_of}
use Rattle.fond_tree.proofs.Again.{Again}
use Rattle.fond_text.proofs.Earliest.{IsFirstSoFar}
use Rattle.fond_tree.proofs.repeats.repeated_head.Given as goal

-- the first repeated section so far
abbrev pub invariant-loop-section : goal.invariant-loop-section
invariant-loop-section l =
    IsFirstSoFar (Again head_of l.head false l.sections) (Again head_of l.head l.seen (drop l.section-index l.sections)) l.first
