use Rattle.fond_regress.specs.Taken.{TakesFrom}
use Rattle.fond_regress.proofs.start.take_opposite.Given as goal

abbrev pub invariant-loop-atom : goal.invariant-loop-atom
invariant-loop-atom l = TakesFrom l.source l.initial.out l.out
