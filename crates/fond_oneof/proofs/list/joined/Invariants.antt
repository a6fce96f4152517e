use Rattle.std.proofs.Common.{◌≡◌, ◌++◌, drop}
use Rattle.fond_oneof.specs.Shown.{all_shown, pairs}
use Rattle.fond_oneof.proofs.list.joined.Given as goal

abbrev pub invariant-loop-outcome : goal.invariant-loop-outcome
invariant-loop-outcome l = all_shown l.all.items ++ pairs (all_shown (drop l.outcome-index l.fn.first.items)) (all_shown l.second) ≡ pairs (all_shown l.fn.first.items) (all_shown l.second)
