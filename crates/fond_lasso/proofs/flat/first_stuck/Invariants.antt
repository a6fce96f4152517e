use Rattle.std.proofs.Common.{◌≡◌, ◌<◌, ℕ, Some, slice_get}
use Rattle.fond_reach.specs.declared.node.Node.TheVariants.{Stuck}
use Rattle.fond_lasso.proofs.flat.first_stuck.Given as goal

abbrev pub invariant-loop-n : goal.invariant-loop-n
invariant-loop-n l = (k : ℕ) → k < l.n → ¬ (slice_get l.nodes k ≡ Some Stuck)
