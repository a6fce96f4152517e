use Rattle.std.proofs.Common.{◌∙◌, refl, arith}
use Rattle.fond_task.specs.Rules.{IsLeanRule}
use Rattle.fond_policy.proofs.Beginning.{before_more, before_all}
use Rattle.fond_check.proofs.lean.are_rules_lean.Goals as goal

pub loop-at-preserved : goal.loop-at-preserved
loop-at-preserved c = record {
  pad = c.lean_rule.ensures.same_pad ∙ c.loop-at.invariant.pad;
  lean = before_more c.args.rules.now (λ n rule. IsLeanRule c.args.t.now c.args.pairs.now c.args.rules.now n rule) c.loop-at.at c.get.result.now c.get.ensures (c.if-not-lean_rule.ensures.decides.0 refl) c.loop-at.invariant.lean;
}

pub returns-clause-decides : goal.returns-clause-decides
returns-clause-decides c = (
  λ e. before_all c.args.rules.now (λ n rule. IsLeanRule c.args.t.now c.args.pairs.now c.args.rules.now n rule) c.loop-at.at (omega (arith, c.loop-at-test.false, c.len-at-end.ensures)) c.loop-at.invariant.lean,
  λ all. refl,
)
