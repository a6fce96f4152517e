use Rattle.std.proofs.Common.{◌≡◌, ℕ, length, slice_get, Some, List}
use Rattle.fond_task.specs.Steps.{next_state}
use Rattle.fond_task.specs.declared.task.Act.{Act}
use Rattle.fond_task.specs.declared.task.Entry.{Entry}
use Rattle.fond_covering.proofs.full.next_numbers.Given as goal

-- there is a number for each outcome so far, which is that of the state after it
abbrev pub invariant-loop-outcome : goal.invariant-loop-outcome
invariant-loop-outcome l = record {
  long : length l.next ≡ length l.t.atoms;
  counted : length l.numbers ≡ l.outcome;
  each : (act : Act) (at number : ℕ) (entries : List Entry) → slice_get l.t.acts l.act ≡ Some act → slice_get l.numbers at ≡ Some number → slice_get act.outcomes at ≡ Some entries → slice_get l.states number ≡ Some (next_state l.state entries);
}
