use Rattle.std.proofs.Common.{take}
use Rattle.fond_text.specs.Firsts.{IsFirst}
use Rattle.fond_names.specs.Faults.{IsUnknownTerm}
use Rattle.fond_names.specs.Files.{declarations_of}
use Rattle.fond_names.proofs.Among.{Among}
use Rattle.fond_names.proofs.atoms.unknown_term.Given as goal

-- the fault is the first among the terms so far
abbrev pub invariant-loop-i : goal.invariant-loop-i
invariant-loop-i l = IsFirst (Among (IsUnknownTerm (declarations_of l.files) l.around) (take l.i l.atom.terms)) l.first
