use Rattle.std.proofs.Common.{◌≡◌, ℕ, ◌-◌, ◌<◌, ◌≤◌, Bool, Some, length}
use Rattle.fond_state.specs.Cubes.{literal_at}
use Rattle.fond_matrix.specs.Rows.{row_at, has}
use Rattle.fond_matrix.proofs.rows.Rows.make_room.Given as goal

abbrev pub invariant-loop-atom : goal.invariant-loop-atom
invariant-loop-atom l = record {
  within : l.from ≤ length l.cube;
  same : (s : Bool) (a number : ℕ) → has l.self s a number ≡ has l.initial.self s a number;
  wide : (s : Bool) (a : ℕ) → a < l.from → literal_at l.cube a ≡ Some s → l.count ≤ length (row_at l.self s a);
}

abbrev pub decreases-loop-atom : goal.decreases-loop-atom
decreases-loop-atom l = length l.cube - l.from
