use Rattle.fond_explicit.proofs.Runs.{none_fit}
use Rattle.fond_explicit.proofs.solve.solve_by.Goals as goal

pub returns-then-budget-eq0 : goal.returns-then-budget-eq0
returns-then-budget-eq0 c = none_fit c.args.t.now c.args.from.now c.args.budget c.if-budget-eq0.true
