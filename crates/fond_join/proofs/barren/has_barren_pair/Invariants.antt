use Rattle.std.proofs.Common.{◌≡◌}
use Rattle.fond_join.proofs.barren.has_barren_pair.Given as goal

abbrev pub invariant-loop-other : goal.invariant-loop-other
invariant-loop-other l = l.scope.env.items ≡ l.initial.scope.env.items
