use Rattle.std.proofs.Common.{take}
use Rattle.fond_text.specs.Firsts.{IsFirst}
use Rattle.fond_names.specs.Unknown.{IsUnknownType}
use Rattle.fond_names.proofs.Among.{Among}
use Rattle.fond_names.proofs.unknown.unknown_type.Given as goal

-- the fault is the first among the names so far
abbrev pub invariant-loop-i : goal.invariant-loop-i
invariant-loop-i l = IsFirst (Among (λ name. IsUnknownType l.types.types.now name.kinds) (take l.i l.names)) l.first
