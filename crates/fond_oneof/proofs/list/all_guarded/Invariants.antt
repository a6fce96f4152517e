use Rattle.std.proofs.Common.{◌≡◌, ◌++◌, map, drop}
use Rattle.fond_oneof.specs.Shown.{all_shown, shown_under}
use Rattle.fond_oneof.proofs.list.all_guarded.Given as goal

abbrev pub invariant-loop-outcome : goal.invariant-loop-outcome
invariant-loop-outcome l = all_shown l.under.items ++ map (map (shown_under l.condition)) (all_shown (drop l.outcome-index l.all)) ≡ map (map (shown_under l.condition)) (all_shown l.all)
