use Rattle.std.proofs.Common.{◌≡◌, drop}
use Rattle.fond_ast.specs.Ranges.{objects_of}
use Rattle.fond_ground.specs.Places.{have_objects}
use Rattle.fond_ground.proofs.tuples.has_empty.Given as goal

abbrev pub invariant-loop-range : goal.invariant-loop-range
invariant-loop-range l = have_objects (objects_of (drop l.range-index l.ranges)) ≡ have_objects (objects_of l.ranges)
