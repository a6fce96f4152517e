use Rattle.std.proofs.Common.{◌≡◌, length}
use Rattle.fond_exec.proofs.Duelling.{ArePicked}
use Rattle.fond_exec.proofs.duel.worst_picks.Given as goal

-- the picks of the steps so far
abbrev pub invariant-loop : goal.invariant-loop
invariant-loop l = record {
  task : l.run.task ≡ l.t;
  rules : l.run.rules ≡ l.rules;
  long : length l.words.items ≡ l.counter;
  so_far : ArePicked l.t l.rules l.t.init l.words.items l.run.state;
}
