use Rattle.std.proofs.Common.{take}
use Rattle.fond_text.specs.Firsts.{IsFirst}
use Rattle.fond_names.specs.Faults.{HasUnknownType}
use Rattle.fond_names.proofs.Among.{Among}
use Rattle.fond_names.proofs.unknown.unknown_parameter.Given as goal

-- the fault is the first among the predicates so far
abbrev pub invariant-loop-i : goal.invariant-loop-i
invariant-loop-i l = IsFirst (Among (λ declared. HasUnknownType l.files.domain.now.kinds declared.parameters) (take l.i l.files.domain.now.predicates)) l.first
