use Rattle.std.proofs.Common.{◌≡◌, ◌+◌, ◌++◌, Some, length, map, drop}
use Rattle.std.specs.Prelude.{fold}
use Rattle.fond_ast.specs.Ranges.{objects_of}
use Rattle.fond_task.specs.Junctions.{joined, joined_all}
use Rattle.fond_join.specs.Partial.{partial_value}
use Rattle.fond_join.proofs.Joined.{over_rest}
use Rattle.fond_join.proofs.Weights.{total, weight}
use Rattle.fond_ast.specs.Conditions.{tuples}
use Rattle.fond_join.proofs.value.+evaluating.Given as goal

abbrev pub decreases-value : goal.decreases-value
decreases-value l = weight l.condition.now

abbrev pub decreases-parts_value : goal.decreases-parts_value
decreases-parts_value l = total (map weight l.parts.now) + 1

abbrev pub decreases-quantified_value : goal.decreases-quantified_value
decreases-quantified_value l = weight l.part.now + length l.ranges.now + 2

abbrev pub decreases-range_value : goal.decreases-range_value
decreases-range_value l = weight l.part.now + length l.ranges.now + 1

abbrev pub invariant-parts_value-loop-part : goal.invariant-parts_value-loop-part
invariant-parts_value-loop-part l = record {
  same : l.scope.env.items ≡ l.initial.scope.env.items;
  left : fold (joined l.junction) l.all (map (partial_value l.facts.task.now l.initial.scope.env.items) (drop l.part-index l.parts))
      ≡ joined_all l.junction (map (partial_value l.facts.task.now l.initial.scope.env.items) l.parts);
}

abbrev pub invariant-range_value-loop-object : goal.invariant-range_value-loop-object
invariant-range_value-loop-object l = record {
  same : l.scope.env.items ≡ l.initial.scope.env.items;
  left : fold (joined l.junction) l.all (map (over_rest l.facts.task.now l.initial.scope.env.items l.part l.junction (objects_of l.rest)) (drop l.object-index l.object-items))
      ≡ joined_all l.junction (map (λ objects. partial_value l.facts.task.now (l.initial.scope.env.items ++ map Some objects) l.part) (tuples (objects_of l.ranges)));
}
