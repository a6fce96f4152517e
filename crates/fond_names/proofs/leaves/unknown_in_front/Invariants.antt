use Rattle.std.proofs.Common.{map, take}
use Rattle.fond_text.specs.Firsts.{IsFirst}
use Rattle.fond_names.specs.Faults.{IsUnknownSchema}
use Rattle.fond_names.specs.Names.{schema_names}
use Rattle.fond_names.proofs.leaves.unknown_in_front.Given as goal

-- the fault is the first among the leaves of the patterns so far
abbrev pub invariant-loop-i : goal.invariant-loop-i
invariant-loop-i l = IsFirst (IsUnknownSchema (schema_names l.files.domain.now) (take l.i (map (λ pattern. pattern.schema) l.files.side.now.patterns))) l.first
