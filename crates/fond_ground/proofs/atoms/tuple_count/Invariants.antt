use Rattle.std.proofs.Common.{◌≡◌, ◌≤◌, ◌*◌, ◌-◌, ◌^◌, length, drop}
use Rattle.std.specs.Prelude.{min}
use Rattle.fond_ast.specs.Ranges.{objects_of}
use Rattle.fond_ast.specs.Conditions.{tuples}
use Rattle.fond_ground.proofs.atoms.tuple_count.Given as goal

abbrev pub invariant-loop-range : goal.invariant-loop-range
invariant-loop-range l = record {
  fits : l.count ≤ 2 ^ 64 - 1;
  counted : min (l.count * length (tuples (objects_of (drop l.range-index l.ranges)))) (2 ^ 64 - 1) ≡ min (length (tuples (objects_of l.ranges))) (2 ^ 64 - 1);
}
