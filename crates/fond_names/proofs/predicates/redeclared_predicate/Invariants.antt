use Rattle.std.proofs.Common.{take}
use Rattle.fond_text.specs.Firsts.{IsFirst}
use Rattle.fond_names.specs.Faults.{IsRepeatedPredicate}
use Rattle.fond_names.proofs.predicates.redeclared_predicate.Given as goal

-- the fault is the first among the predicates so far
abbrev pub invariant-loop-i : goal.invariant-loop-i
invariant-loop-i l = IsFirst (IsRepeatedPredicate (take l.i l.files.domain.now.predicates)) l.first
