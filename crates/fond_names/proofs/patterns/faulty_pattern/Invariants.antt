use Rattle.std.proofs.Common.{◌⊎◌, take}
use Rattle.fond_text.specs.Firsts.{IsFirst}
use Rattle.fond_names.specs.Faults.{HasUnknownObject, HasWrongCount}
use Rattle.fond_names.specs.Files.{declarations_of}
use Rattle.fond_names.proofs.Among.{Among}
use Rattle.fond_names.proofs.patterns.faulty_pattern.Given as goal

-- the fault is the first among the patterns so far
abbrev pub invariant-loop-i : goal.invariant-loop-i
invariant-loop-i l =
    IsFirst (Among (λ pattern place code. HasWrongCount l.files.domain.now pattern place code ⊎ HasUnknownObject (declarations_of l.files) pattern place code) (take l.i l.files.side.now.patterns)) l.first
