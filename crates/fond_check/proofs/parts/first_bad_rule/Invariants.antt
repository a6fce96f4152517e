use Rattle.std.proofs.Common.{◌≡◌, length}
use Rattle.fond_task.specs.Rules.{IsSureRule}
use Rattle.fond_policy.proofs.Beginning.{Before}
use Rattle.fond_check.proofs.parts.first_bad_rule.Given as goal

-- the rules so far are sure
abbrev pub invariant-loop-at : goal.invariant-loop-at
invariant-loop-at l = record {
  pad : l.pad ≡ length l.t.atoms;
  sure : Before l.rules (λ n rule. IsSureRule l.t l.pairs l.rules n rule) l.at;
}
