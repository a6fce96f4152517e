use Rattle.fond_regress.specs.Taken.{TakesFrom}
use Rattle.fond_regress.proofs.start.oppose_pairs.Given as goal

abbrev pub invariant-loop-i : goal.invariant-loop-i
invariant-loop-i l = TakesFrom l.source l.initial.out l.out
