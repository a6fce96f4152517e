use Rattle.std.proofs.Common.{◌≡◌, slice_get, Some}
use Rattle.fond_task.specs.declared.task.Act.{Act}
use Rattle.fond_exec.proofs.Weighed.{IsGreatest, weigh_outcome}
use Rattle.fond_exec.proofs.duel.heaviest.Given as goal

-- the first outcome of greatest weight among those so far
abbrev pub invariant-loop-outcome : goal.invariant-loop-outcome
invariant-loop-outcome l = record {
  same : l.run ≡ l.initial.run;
  greatest : (a : Act) → slice_get l.initial.run.task.acts l.act ≡ Some a → IsGreatest (weigh_outcome l.initial.run.task l.initial.run.rules l.initial.run.state a) l.outcome l.best l.greatest;
}
