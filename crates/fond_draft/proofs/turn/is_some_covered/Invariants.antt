use Rattle.std.proofs.Common.{◌≡◌, ℕ, ◌<◌, length, slice_get, Some, List}
use Rattle.fond_task.specs.Steps.{next_state}
use Rattle.fond_task.specs.declared.task.Act.{Act}
use Rattle.fond_task.specs.declared.task.Entry.{Entry}
use Rattle.fond_draft.specs.Targets.{IsCovered}
use Rattle.fond_draft.proofs.turn.is_some_covered.Given as goal

-- no outcome so far leads to a goal or to a state in which a rule holds
abbrev pub invariant-loop-outcome : goal.invariant-loop-outcome
invariant-loop-outcome l = record {
  long : length l.next ≡ length l.t.atoms;
  none : (act : Act) (number : ℕ) (entries : List Entry) → slice_get l.t.acts l.turn.act ≡ Some act → number < l.outcome → slice_get act.outcomes number ≡ Some entries → ¬ IsCovered l.t l.rules (next_state l.turn.state entries);
}
