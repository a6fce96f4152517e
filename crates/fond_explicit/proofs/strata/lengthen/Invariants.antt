use Rattle.std.proofs.Common.{◌≡◌, ℕ, ◌+◌, ◌-◌, ◌≤◌, length, max, vec_len}
use Rattle.fond_explicit.specs.Spaces.{layer_at}
use Rattle.fond_explicit.proofs.strata.lengthen.Given as goal

abbrev pub invariant-loop-alloc : goal.invariant-loop-alloc
invariant-loop-alloc l = record {
  long : length l.layers.items ≤ max (length l.fn.layers.items) (l.number + 1);
  same : (other : ℕ) → layer_at l.layers.items other ≡ layer_at l.fn.layers.items other;
}

abbrev pub decreases-loop-alloc : goal.decreases-loop-alloc
decreases-loop-alloc l = l.number + 1 - vec_len l.layers
