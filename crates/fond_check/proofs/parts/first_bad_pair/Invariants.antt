use Rattle.std.proofs.Common.{◌≡◌, length}
use Rattle.fond_task.specs.Layers.{IsSurePair}
use Rattle.fond_policy.proofs.Beginning.{Before}
use Rattle.fond_check.proofs.parts.first_bad_pair.Given as goal

-- the pairs so far are sure
abbrev pub invariant-loop-at : goal.invariant-loop-at
invariant-loop-at l = record {
  pad : l.pad ≡ length l.t.atoms;
  sure : Before l.pairs (λ n pair. IsSurePair l.t l.layers pair) l.at;
}
