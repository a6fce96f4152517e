use Rattle.std.proofs.Common.{◌≡◌}
use Rattle.fond_join.proofs.barren.is_barren_with.Given as goal

abbrev pub invariant-loop-parameter : goal.invariant-loop-parameter
invariant-loop-parameter l = l.scope.env.items ≡ l.initial.scope.env.items
