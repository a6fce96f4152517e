use Rattle.std.proofs.Common.{◌≡◌, ◌++◌, drop}
use Rattle.fond_ast.specs.Ranges.{objects_of}
use Rattle.fond_ground.specs.Places.{objects_at}
use Rattle.fond_ground.proofs.tuples.put_objects.Given as goal

abbrev pub invariant-loop-i : goal.invariant-loop-i
invariant-loop-i l = l.env.items ++ objects_at (objects_of (drop l.i l.ranges)) (drop l.i l.places) ≡ l.initial.env.items ++ objects_at (objects_of l.ranges) l.places
