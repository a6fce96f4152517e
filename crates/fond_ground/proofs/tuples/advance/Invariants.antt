use Rattle.std.proofs.Common.{◌≡◌, ◌≤◌, [], length, drop}
use Rattle.fond_ast.specs.Ranges.{objects_of}
use Rattle.fond_ground.specs.Places.{tuples_after}
use Rattle.fond_ground.proofs.Odometer.{reset_from}
use Rattle.fond_ground.proofs.tuples.advance.Given as goal

-- the places from this one on are at the starts, after they were at the ends
abbrev pub invariant-loop-at : goal.invariant-loop-at
invariant-loop-at l = record {
  within : l.at ≤ length l.ranges;
  long : length l.places.items ≡ length l.ranges;
  reset : l.places.items ≡ reset_from l.at l.initial.places.items;
  done : tuples_after (drop l.at (objects_of l.ranges)) (drop l.at l.initial.places.items) ≡ [];
}

abbrev pub decreases-loop-at : goal.decreases-loop-at
decreases-loop-at l = l.at
