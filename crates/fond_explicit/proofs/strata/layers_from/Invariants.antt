use Rattle.std.proofs.Common.{◌≡◌}
use Rattle.fond_explicit.proofs.strata.layers_from.Given as goal

abbrev pub invariant-loop-layer : goal.invariant-loop-layer
invariant-loop-layer l = l.layers ≡ l.yielded
