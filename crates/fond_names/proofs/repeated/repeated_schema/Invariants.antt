use Rattle.std.proofs.Common.{take}
use Rattle.fond_text.specs.Firsts.{IsFirst}
use Rattle.fond_names.specs.Faults.{IsRepeatedSchema}
use Rattle.fond_names.proofs.repeated.repeated_schema.Given as goal

-- the fault is the first among the schemas so far
abbrev pub invariant-loop-i : goal.invariant-loop-i
invariant-loop-i l = IsFirst (IsRepeatedSchema (take l.i l.files.domain.now.schemas)) l.first
