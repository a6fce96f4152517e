use Rattle.std.proofs.Common.{take}
use Rattle.fond_text.specs.declared.code.TheConstants.{UNKNOWN_TERM}
use Rattle.fond_text.specs.Firsts.{IsFirst}
use Rattle.fond_names.specs.Files.{declarations_of}
use Rattle.fond_names.specs.Unknown.{is_sound_term}
use Rattle.fond_names.proofs.Missing.{IsMissing}
use Rattle.fond_names.proofs.patterns.unknown_object.Given as goal

-- the fault is the first among the terms so far
abbrev pub invariant-loop-i : goal.invariant-loop-i
invariant-loop-i l = IsFirst (IsMissing (is_sound_term (declarations_of l.files)) (λ term. term.place) UNKNOWN_TERM (take l.i l.pattern.terms)) l.first
