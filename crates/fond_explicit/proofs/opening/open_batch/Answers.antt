use Rattle.std.proofs.Common.{arith}
use Rattle.fond_explicit.proofs.opening.open_batch.Goals as goal

pub returns-then-not-branch-clause-keeps : goal.returns-then-not-branch-clause-keeps
returns-then-not-branch-clause-keeps c = λ from now. c.in_ok-open_next.ensures.keeps from (c.loop.invariant.keeps from now)

pub loop-preserved : goal.loop-preserved
loop-preserved c = record {
  next_long = c.open_next.ensures.next_long;
  few = c.in_ok-open_next.ensures.few;
  keeps = λ from now. c.in_ok-open_next.ensures.keeps from (c.loop.invariant.keeps from now);
  opened = omega (arith, c.loop.invariant.opened, c.in_ok-open_next.ensures.opened c.if-not-branch.false);
}

pub open_next-requires-clause-space : goal.open_next-requires-clause-space
open_next-requires-clause-space c = (c.requires.space.0, c.loop.invariant.keeps c.requires.space.0 c.requires.space.1)

pub returns-then-not-branch-clause-past : goal.returns-then-not-branch-clause-past
returns-then-not-branch-clause-past c = λ is from now. c.in_ok-open_next.ensures.past c.if-not-branch.true from (c.loop.invariant.keeps from now)
