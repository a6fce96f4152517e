use Rattle.fond_regress.specs.Taken.{TakesFrom}
use Rattle.fond_regress.proofs.start.Origin.explain_each.Given as goal

abbrev pub invariant-loop-i : goal.invariant-loop-i
invariant-loop-i l = TakesFrom l.self.source.now l.initial.out l.out
