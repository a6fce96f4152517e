use Rattle.std.specs.Prelude.{IfSome}
use Rattle.fond_join.specs.Agree.{Covers}
use Rattle.fond_join.proofs.Weights.{weight}
use Rattle.fond_join.proofs.candidates.+row_of.Given as goal

abbrev pub decreases-row_of : goal.decreases-row_of
decreases-row_of l = weight l.condition.now

abbrev pub invariant-loop-part : goal.invariant-loop-part
invariant-loop-part l = IfSome l.best (λ row. Covers l.facts.task.now l.condition l.scope.env.items l.parameter row.now)
