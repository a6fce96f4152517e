use Rattle.std.proofs.Common.{◌≤◌}
use Rattle.fond_match.proofs.grow.first_split.Given as goal

abbrev pub invariant-loop-number : goal.invariant-loop-number
invariant-loop-number g l = l.agreed ≤ l.end
