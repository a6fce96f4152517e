use Rattle.std.proofs.Common.{◌≡◌, ◌≤◌, Some, slice_get, drop, map, length, fold}
use Rattle.fond_task.specs.Steps.{next_state}
use Rattle.fond_task.specs.declared.task.Act.{Act}
use Rattle.fond_succ.specs.Steps.{added, once}
use Rattle.fond_succ.proofs.successors.next_states.Given as goal

-- the states so far, with those of the outcomes that are left, are those of all outcomes
abbrev pub invariant-loop-k : goal.invariant-loop-k
invariant-loop-k l = record {
  few : length l.states ≤ l.k;
  all : (a : Act) → slice_get l.game.acts l.number ≡ Some a → fold added l.states (map (next_state l.game.init) (drop l.k a.outcomes)) ≡ once (map (next_state l.game.init) a.outcomes);
}
