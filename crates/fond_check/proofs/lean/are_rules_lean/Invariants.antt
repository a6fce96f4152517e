use Rattle.std.proofs.Common.{◌≡◌, length}
use Rattle.fond_task.specs.Rules.{IsLeanRule}
use Rattle.fond_policy.proofs.Beginning.{Before}
use Rattle.fond_check.proofs.lean.are_rules_lean.Given as goal

-- the rules so far are lean
abbrev pub invariant-loop-at : goal.invariant-loop-at
invariant-loop-at l = record {
  pad : l.pad ≡ length l.t.atoms;
  lean : Before l.rules (λ n rule. IsLeanRule l.t l.pairs l.rules n rule) l.at;
}
