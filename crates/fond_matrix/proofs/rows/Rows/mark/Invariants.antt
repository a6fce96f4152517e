use Rattle.std.proofs.Common.{◌≡◌, ℕ, ◌-◌, ◌<◌, ◌≤◌, Bool, false, length}
use Rattle.fond_match.specs.Lies.{is_sign}
use Rattle.fond_state.specs.Cubes.{literal_at}
use Rattle.fond_matrix.specs.Rows.{row_at, has}
use Rattle.fond_matrix.proofs.rows.Rows.mark.Given as goal

abbrev pub invariant-loop-atom : goal.invariant-loop-atom
invariant-loop-atom l = record {
  within : l.from ≤ length l.cube;
  long : (s : Bool) (a : ℕ) → length (row_at l.self s a) ≡ length (row_at l.initial.self s a);
  done : (s : Bool) (a : ℕ) → a < l.from → has l.self s a l.number ≡ is_sign (literal_at l.cube a) s;
  rest : (s : Bool) (a : ℕ) → l.from ≤ a → has l.self s a l.number ≡ false;
  other : (s : Bool) (a k : ℕ) → ¬ k ≡ l.number → has l.self s a k ≡ has l.initial.self s a k;
}

abbrev pub decreases-loop-atom : goal.decreases-loop-atom
decreases-loop-atom l = length l.cube - l.from
