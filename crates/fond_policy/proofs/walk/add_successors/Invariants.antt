use Rattle.std.proofs.Common.{◌≡◌, ℕ, ◌<◌, length, slice_get, Some, List}
use Rattle.std.specs.Prelude.{Contains}
use Rattle.fond_task.specs.Steps.{next_state}
use Rattle.fond_task.specs.declared.task.Act.{Act}
use Rattle.fond_task.specs.declared.task.Entry.{Entry}
use Rattle.fond_task.specs.Policies.{IsNext}
use Rattle.fond_policy.specs.Walks.{Grows}
use Rattle.fond_policy.proofs.walk.add_successors.Given as goal

-- the states to which the outcomes so far lead were added, and no others
abbrev pub invariant-loop-outcome : goal.invariant-loop-outcome
invariant-loop-outcome l = record {
  long : length l.next ≡ length l.t.atoms;
  grows : Grows (IsNext l.t l.state l.act) l.initial.states l.states;
  all : (act : Act) (number : ℕ) (entries : List Entry) → slice_get l.t.acts l.act ≡ Some act → number < l.outcome → slice_get act.outcomes number ≡ Some entries → Contains l.states (next_state l.state entries);
}
