use Rattle.fond_explicit.proofs.Runs.{none_fit}
use Rattle.fond_explicit.proofs.whole.solve_all.Goals as goal

pub returns-then-budget-eq0 : goal.returns-then-budget-eq0
returns-then-budget-eq0 c = none_fit c.args.t.now c.args.t.now.init c.args.budget c.if-budget-eq0.true

pub split_opened-requires-clause-space : goal.split_opened-requires-clause-space
split_opened-requires-clause-space c = c.in_ok-open_every.ensures.keeps c.args.t.now.init c.in_ok-space.ensures.space

pub returns-then-not-branch : goal.returns-then-not-branch
returns-then-not-branch c = c.in_ok-open_every.ensures.past c.if-not-branch.true c.args.t.now.init c.in_ok-space.ensures.space
