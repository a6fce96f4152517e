use Rattle.std.proofs.Common.{◌≡◌, ℕ, ◌+◌, ◌-◌, ◌*◌, ◌<◌, ◌≤◌, length}
use Rattle.std.specs.Bool.{Decides}
use Rattle.fond_state.specs.Words.{truth_in}
use Rattle.fond_matrix.specs.Below.{SomeBelow, TwoBelow}
use Rattle.fond_matrix.specs.Rows.{clashes}
use Rattle.fond_matrix.proofs.rows.Rows.gather.Given as goal

abbrev pub invariant-loop-atom : goal.invariant-loop-atom
invariant-loop-atom l = record {
  within : l.from ≤ length l.cube;
  long : (length l.once ≡ length l.initial.once) × (length l.twice ≡ length l.initial.twice);
  some : (k : ℕ) → k < 64 * l.count → Decides (truth_in l.once k) (SomeBelow (clashes l.self l.cube (64 * l.start + k)) l.from);
  two : (k : ℕ) → k < 64 * l.count → Decides (truth_in l.twice k) (TwoBelow (clashes l.self l.cube (64 * l.start + k)) l.from);
}

abbrev pub decreases-loop-atom : goal.decreases-loop-atom
decreases-loop-atom l = length l.cube - l.from
