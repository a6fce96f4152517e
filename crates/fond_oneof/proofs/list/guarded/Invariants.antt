use Rattle.std.proofs.Common.{◌≡◌, ◌++◌, map, drop}
use Rattle.fond_oneof.specs.Shown.{shown, shown_under}
use Rattle.fond_oneof.proofs.list.guarded.Given as goal

abbrev pub invariant-loop-entry : goal.invariant-loop-entry
invariant-loop-entry l = map shown l.under ++ map (shown_under l.condition) (map shown (drop l.entry-index l.outcome)) ≡ map (shown_under l.condition) (map shown l.outcome)
