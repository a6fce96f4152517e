use Rattle.std.proofs.Common.{◌≡◌, ◌<◌, ℕ, Some, get_or, set}
use Rattle.fond_join.specs.Barren.{IsBarren}
use Rattle.fond_join.proofs.barren.is_barren_pair.Given as goal

abbrev pub invariant-loop-object : goal.invariant-loop-object
invariant-loop-object l = record {
  same : l.scope.env.items ≡ l.initial.scope.env.items;
  barren : (k : ℕ) → k < l.object-index → IsBarren l.facts.task.now l.schema.pre (set l.initial.scope.env.items l.parameter (Some (get_or l.objects k 0))) l.other l.others;
}
