use Rattle.std.proofs.Common.{take}
use Rattle.fond_text.specs.Firsts.{IsFirst}
use Rattle.fond_names.specs.Unknown.{IsUnknownType}
use Rattle.fond_names.proofs.unknown.unknown_kind.Given as goal

-- the fault is the first among the types so far
abbrev pub invariant-loop-i : goal.invariant-loop-i
invariant-loop-i l = IsFirst (IsUnknownType l.types.types.now (take l.i l.kinds)) l.first
