use Rattle.std.proofs.Common.{◌≡◌, ◌<◌, ℕ, false, not, Some, get_or, set}
use Rattle.fond_join.specs.Kept.{is_no}
use Rattle.fond_join.specs.Partial.{partial_value}
use Rattle.fond_join.proofs.barren.is_barren.Given as goal

abbrev pub invariant-loop-object : goal.invariant-loop-object
invariant-loop-object l = record {
  same : l.scope.env.items ≡ l.initial.scope.env.items;
  barren : (k : ℕ) → k < l.object-index → not (is_no (partial_value l.facts.task.now (set l.initial.scope.env.items l.parameter (Some (get_or l.objects k 0))) l.pre)) ≡ false;
}
