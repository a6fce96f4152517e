use Rattle.std.proofs.Common.{◌≡◌, length, drop}
use Rattle.fond_names.specs.Same.{are_same_types}
use Rattle.fond_names.proofs.predicates.are_same_types.Given as goal

-- the lists have the same types if and only if what is left does
abbrev pub invariant-loop-i : goal.invariant-loop-i
invariant-loop-i l = record {
  same : are_same_types (drop l.i l.ones) (drop l.i l.others) ≡ are_same_types l.ones l.others;
  long : length l.ones ≡ length l.others;
}
