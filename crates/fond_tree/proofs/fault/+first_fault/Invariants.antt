use Rattle.std.proofs.Common.{drop}
use Rattle.fond_tree.specs.FormFaults.{Stands}
use Rattle.fond_tree.specs.Walks.{parts_left}
use Rattle.fond_tree.proofs.Among.{Among}
use Rattle.fond_text.proofs.Earliest.{IsFirstSoFar}
use Rattle.fond_tree.proofs.fault.+first_fault.Given as goal

-- the first fault of the tree so far, without those of the parts that are left
abbrev pub invariant-loop-i : goal.invariant-loop-i
invariant-loop-i l = IsFirstSoFar (Stands l.fn.role l.tree) (Among (parts_left l.walk (drop l.i l.trees))) l.first
