use Rattle.std.proofs.Common.{arith}
use Rattle.fond_state.proofs.Changed.{none_true}
use Rattle.fond_matrix.proofs.Opposed.{opposed_before}
use Rattle.fond_matrix.proofs.rows.Rows.first_beside.Goals as goal

pub gather-requires-clause-clear : goal.gather-requires-clause-clear
gather-requires-clause-clear c = λ k _. (none_true 64 k, none_true 64 k)

pub returns-then-number-below-clause-before : goal.returns-then-number-below-clause-before
returns-then-number-below-clause-before c =
    opposed_before c.args.self.now c.args.cube.now c.gather.new.once c.loop-start.start c.min-count.result c.first_clear-place.result c.first_clear-place.ensures.within c.loop-start.invariant c.first_clear-place.ensures.set c.gather.ensures.once

pub returns-then-place-count-clause-none : goal.returns-then-place-count-clause-none
returns-then-place-count-clause-none c = λ k lt.
    opposed_before c.args.self.now c.args.cube.now c.gather.new.once c.loop-start.start c.min-count.result c.first_clear-place.result c.first_clear-place.ensures.within c.loop-start.invariant c.first_clear-place.ensures.set c.gather.ensures.once
    k (omega (arith, lt, c.if-number-below.false))

pub loop-start-preserved : goal.loop-start-preserved
loop-start-preserved c = λ k lt.
    opposed_before c.args.self.now c.args.cube.now c.gather.new.once c.loop-start.start c.min-count.result c.first_clear-place.result c.first_clear-place.ensures.within c.loop-start.invariant c.first_clear-place.ensures.set c.gather.ensures.once
    k (omega (arith, lt, c.if-place-count.false))
