use Rattle.std.proofs.Common.{◌≡◌, ◌≤◌, ◌*◌, ◌+◌, length, map, drop, min}
use Rattle.std.specs.List.{flat_map}
use Rattle.fond_text.specs.Lists.{concatenations}
use Rattle.fond_oneof.specs.Outcomes.{outcome_lists}
use Rattle.fond_oneof.proofs.count.+count.Given as goal

abbrev pub decreases-count : goal.decreases-count
decreases-count l = goal.size-count l

abbrev pub invariant-loop-part : goal.invariant-loop-part
invariant-loop-part l = record {
  most : l.all ≤ 1000000;
  left : min (l.all * length (concatenations (map outcome_lists (drop l.part-index l.part-items)))) 1000000 ≡ min (length (outcome_lists l.effect)) 1000000;
}

abbrev pub invariant-loop-part-2 : goal.invariant-loop-part-2
invariant-loop-part-2 l = record {
  most : l.all ≤ 1000000;
  left : min (l.all + length (flat_map (λ part. part) (map outcome_lists (drop l.part-index l.part-items)))) 1000000 ≡ min (length (outcome_lists l.effect)) 1000000;
}
