use Rattle.std.proofs.Common.{◌≡◌, ◌≤◌, ◌*◌, ◌+◌, ℕ, List, length, map, drop, min}
use Rattle.std.specs.List.{flat_map}
use Rattle.fond_text.specs.Lists.{concatenations}
use Rattle.fond_ast.specs.Outcomes.{outcomes}
use Rattle.fond_ground.proofs.limits.+outcome_count.Given as goal

abbrev pub decreases-outcome_count : goal.decreases-outcome_count
decreases-outcome_count l = goal.size-outcome_count l

-- the outcomes so far, with those of the members that are left, are the whole
abbrev pub invariant-loop-member : goal.invariant-loop-member
invariant-loop-member l = record {
  most : l.all ≤ 257;
  left : (env : List ℕ) → min (l.all * length (concatenations (map (outcomes env) (drop l.member-index l.member-items)))) 257 ≡ min (length (outcomes env l.effect)) 257;
}

abbrev pub invariant-loop-member-2 : goal.invariant-loop-member-2
invariant-loop-member-2 l = record {
  most : l.all ≤ 257;
  left : (env : List ℕ) → min (l.all + length (flat_map (λ part. part) (map (outcomes env) (drop l.member-index l.member-items)))) 257 ≡ min (length (outcomes env l.effect)) 257;
}
