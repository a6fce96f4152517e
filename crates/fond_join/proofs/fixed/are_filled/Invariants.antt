use Rattle.std.proofs.Common.{◌≡◌, drop}
use Rattle.fond_ast.specs.Ranges.{objects_of}
use Rattle.fond_join.specs.Fixed.{are_filled}
use Rattle.fond_join.proofs.fixed.are_filled.Given as goal

abbrev pub invariant-loop-range : goal.invariant-loop-range
invariant-loop-range l = are_filled (objects_of (drop l.range-index l.ranges)) ≡ are_filled (objects_of l.ranges)
