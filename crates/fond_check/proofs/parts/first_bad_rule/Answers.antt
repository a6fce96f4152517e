use Rattle.std.proofs.Common.{◌∙◌, refl, arith}
use Rattle.std.proofs.lemmas.Bool.{false≢true}
use Rattle.fond_task.specs.Rules.{IsSureRule}
use Rattle.fond_policy.proofs.Beginning.{before_more, before_all}
use Rattle.fond_check.proofs.parts.first_bad_rule.Goals as goal

pub returns-then-not-sure_rule-clause-first : goal.returns-then-not-sure_rule-clause-first
returns-then-not-sure_rule-clause-first c = record {
  rule = c.get.result.now;
  has_rule = c.get.ensures;
  bad = λ sure. false≢true (c.if-not-sure_rule.ensures.decides.1 sure);
  first = c.loop-at.invariant.sure;
}

pub loop-at-preserved : goal.loop-at-preserved
loop-at-preserved c = record {
  pad = c.sure_rule.ensures.same_pad ∙ c.loop-at.invariant.pad;
  sure = before_more c.args.rules.now (λ n rule. IsSureRule c.args.t.now c.args.pairs.now c.args.rules.now n rule) c.loop-at.at c.get.result.now c.get.ensures (c.if-not-sure_rule.ensures.decides.0 refl) c.loop-at.invariant.sure;
}

pub returns-clause-first : goal.returns-clause-first
returns-clause-first c = before_all c.args.rules.now (λ n rule. IsSureRule c.args.t.now c.args.pairs.now c.args.rules.now n rule) c.loop-at.at (omega (arith, c.loop-at-test.false, c.len-at-end.ensures)) c.loop-at.invariant.sure
