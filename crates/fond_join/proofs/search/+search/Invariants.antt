use Rattle.std.proofs.Common.{◌≡◌, ◌≤◌, ◌++◌, length, drop}
use Rattle.fond_ast.specs.Ranges.{objects_of}
use Rattle.fond_join.specs.Kept.{is_kept}
use Rattle.fond_join.specs.Search.{kept_completions}
use Rattle.fond_join.proofs.Completed.{passing_from}
use Rattle.fond_join.proofs.search.+search.Given as goal

abbrev pub decreases-search : goal.decreases-search
decreases-search l = length l.order.now

abbrev pub invariant-loop-object : goal.invariant-loop-object
invariant-loop-object l = record {
  same : l.scope.env.items ≡ l.initial.scope.env.items;
  room : length l.found ≤ l.most;
  left : l.found ++ passing_from (objects_of l.schema.ranges) (is_kept l.facts.task.now l.schema) l.initial.scope.env.items l.parameter l.rest (drop l.object-index l.object-items)
      ≡ l.initial.found ++ kept_completions l.facts.task.now l.schema l.initial.scope.env.items l.order;
}
