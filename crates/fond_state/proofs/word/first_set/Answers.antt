use Rattle.std.proofs.Common.{arith}
use Rattle.fond_state.proofs.Apart.{none_left, lowest_set, lowest_within, clear_below}
use Rattle.fond_state.proofs.word.first_set.Goals as goal

pub returns-then-left-eq0-clause-clear : goal.returns-then-left-eq0-clause-clear
returns-then-left-eq0-clause-clear c = λ k le lt. none_left c.args.word c.args.from c.if-left-eq0.true k le

pub returns-clause-within : goal.returns-clause-within
returns-clause-within c =
    let lt = lowest_within c.args.word c.args.from c.ranges.word.fits (omega (arith, c.if-left-eq0.false)) in
    (omega arith, omega (arith, lt))

pub returns-clause-clear : goal.returns-clause-clear
returns-clause-clear c = clear_below c.args.word c.args.from c.ranges.word.fits (omega (arith, c.if-left-eq0.false))

pub returns-clause-set : goal.returns-clause-set
returns-clause-set c = λ _. lowest_set c.args.word c.args.from c.ranges.word.fits (omega (arith, c.if-left-eq0.false))
