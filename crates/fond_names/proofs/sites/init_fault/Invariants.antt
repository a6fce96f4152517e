use Rattle.std.proofs.Common.{[], map, take}
use Rattle.fond_text.specs.Firsts.{IsFirst}
use Rattle.fond_names.specs.Faults.{OccursAmong}
use Rattle.fond_names.specs.Files.{declarations_of}
use Rattle.fond_names.specs.Fits.{AreTold}
use Rattle.fond_names.specs.Sites.{AnAtom}
use Rattle.fond_names.proofs.sites.init_fault.Given as goal

-- the fault is the first in the initial atoms so far, and what is told is true
abbrev pub invariant-loop-i : goal.invariant-loop-i
invariant-loop-i l = record {
  first : IsFirst (OccursAmong (declarations_of l.files) (map (λ initial. AnAtom [] initial.atom) (take l.i l.files.problem.now.init))) l.first;
  told : AreTold (declarations_of l.files) l.outside l.fits;
}
