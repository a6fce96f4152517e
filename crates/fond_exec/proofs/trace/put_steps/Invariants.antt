use Rattle.std.proofs.Common.{◌≡◌, length}
use Rattle.fond_exec.proofs.Traced.{Progress}
use Rattle.fond_exec.proofs.trace.put_steps.Given as goal

abbrev pub invariant-loop-word : goal.invariant-loop-word
invariant-loop-word g l = record {
  task : l.run.task ≡ l.initial.run.task;
  rules : l.run.rules ≡ l.initial.run.rules;
  so_far : Progress (g.P.Picks.pick_of l.picks) l.initial.run.task l.initial.run.rules l.initial.run.state l.words l.run.state l.left l.initial.text l.text;
}

abbrev pub decreases-loop-word : goal.decreases-loop-word
decreases-loop-word g l = length l.left
