use Rattle.std.specs.Prelude.{IfSome}
use Rattle.fond_join.specs.Agree.{CoversAtom}
use Rattle.fond_join.proofs.candidates.row_in.Given as goal

abbrev pub invariant-loop-position : goal.invariant-loop-position
invariant-loop-position l = IfSome l.best (λ row. CoversAtom l.facts.task.now l.atom l.scope.env.items l.parameter row.now)
