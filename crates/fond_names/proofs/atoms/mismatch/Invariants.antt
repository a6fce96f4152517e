use Rattle.fond_text.specs.Firsts.{IsFirst}
use Rattle.fond_names.specs.Files.{declarations_of}
use Rattle.fond_names.specs.Fits.{AreTold}
use Rattle.fond_names.proofs.Among.{Below}
use Rattle.fond_names.proofs.Mismatches.{IsMisfitAt}
use Rattle.fond_names.proofs.atoms.mismatch.Given as goal

-- the fault is the first among the arguments so far, and what is told is true
abbrev pub invariant-loop-i : goal.invariant-loop-i
invariant-loop-i l = record {
  first : IsFirst (Below (IsMisfitAt (declarations_of l.files) l.around l.predicate l.atom) l.i) l.first;
  told : AreTold (declarations_of l.files) l.around l.fits;
}
