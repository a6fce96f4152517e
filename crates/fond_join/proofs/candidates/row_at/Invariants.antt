use Rattle.std.specs.Prelude.{IfSome}
use Rattle.fond_join.specs.Agree.{CoversAtom}
use Rattle.fond_join.proofs.candidates.row_at.Given as goal

abbrev pub invariant-loop-other : goal.invariant-loop-other
invariant-loop-other l = IfSome l.best (λ row. CoversAtom l.facts.task.now l.atom l.scope.env.items l.parameter row.now)
