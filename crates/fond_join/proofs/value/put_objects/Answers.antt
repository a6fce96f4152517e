use Rattle.std.proofs.Common.{◌∙◌, sym}
use Rattle.fond_join.proofs.Known.{known_end, known_next, known_none}
use Rattle.fond_join.proofs.value.put_objects.Goals as goal

pub loop-term-preserved : goal.loop-term-preserved
loop-term-preserved c = record {
  same = c.loop-term.invariant.same;
  left = known_next c.args.scope.now.env.items c.loop-term.scope.key.items _ c.loop-term.invariant.same c.push.new.self.items c.args.terms.now c.loop-term.term-index _ c.in-Some.object c.loop-term-test.true c.in-Some.ensures c.in_ok-push-in-Some.ensures.items
      ∙ c.loop-term.invariant.left;
}

pub returns-in-None-clause-known : goal.returns-in-None-clause-known
returns-in-None-clause-known c =
    sym c.loop-term.invariant.left ∙ known_none c.args.scope.now.env.items c.loop-term.scope.key.items _ c.loop-term.invariant.same c.args.terms.now c.loop-term.term-index _ c.loop-term-test.true c.in-None.ensures

pub returns-clause-known : goal.returns-clause-known
returns-clause-known c = sym c.loop-term.invariant.left ∙ known_end c.args.scope.now.env.items c.loop-term.scope.key.items c.args.terms.now c.loop-term.term-index c.loop-term-test.false
