use Rattle.std.proofs.Common.{take}
use Rattle.fond_text.specs.Firsts.{IsFirst}
use Rattle.fond_names.specs.Faults.{IsUnknownSchema}
use Rattle.fond_names.specs.Names.{schema_names}
use Rattle.fond_names.proofs.leaves.unknown_outside.Given as goal

-- the fault is the first among the leaves so far
abbrev pub invariant-loop-i : goal.invariant-loop-i
invariant-loop-i l = IsFirst (IsUnknownSchema (schema_names l.files.domain.now) (take l.i l.files.side.now.names)) l.first
