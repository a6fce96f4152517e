use Rattle.std.proofs.Common.{◌≡◌, length}
use Rattle.fond_task.specs.Rules.{IsLeanPair}
use Rattle.fond_policy.proofs.Beginning.{Before}
use Rattle.fond_check.proofs.lean.are_pairs_lean.Given as goal

-- the pairs so far are lean
abbrev pub invariant-loop-at : goal.invariant-loop-at
invariant-loop-at l = record {
  pad : l.pad ≡ length l.t.atoms;
  lean : Before l.pairs (λ n pair. IsLeanPair l.t l.layers pair) l.at;
}
