use Rattle.std.proofs.Common.{◌∙◌, refl, arith}
use Rattle.fond_task.specs.Rules.{IsLeanPair}
use Rattle.fond_policy.proofs.Beginning.{before_more, among_all}
use Rattle.fond_check.proofs.lean.are_pairs_lean.Goals as goal

pub loop-at-preserved : goal.loop-at-preserved
loop-at-preserved c = record {
  pad = c.is_lean_pair.ensures.same_pad ∙ c.loop-at.invariant.pad;
  lean = before_more c.args.pairs.now (λ n pair. IsLeanPair c.args.t.now c.args.layers.now pair) c.loop-at.at c.get.result.now c.get.ensures (c.if-not-is_lean_pair.ensures.decides.0 refl) c.loop-at.invariant.lean;
}

pub returns-clause-decides : goal.returns-clause-decides
returns-clause-decides c = (
  λ e. among_all c.args.pairs.now (λ pair. IsLeanPair c.args.t.now c.args.layers.now pair) c.loop-at.at (omega (arith, c.loop-at-test.false, c.len-at-end.ensures)) c.loop-at.invariant.lean,
  λ all. refl,
)
