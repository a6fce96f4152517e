use Rattle.std.proofs.Common.{◌≡◌, ℕ, ◌<◌, List, Some, length, slice_get}
use Rattle.std.specs.Prelude.{Contains}
use Rattle.fond_task.specs.Steps.{next_state}
use Rattle.fond_task.specs.declared.task.Act.{Act}
use Rattle.fond_task.specs.declared.task.Entry.{Entry}
use Rattle.fond_policy.specs.Walks.{Grows}
use Rattle.fond_draft.specs.Plans.{IsProvided}
use Rattle.fond_draft.proofs.below.add_nexts.Given as goal

-- the states to which the outcomes so far lead are provided for
abbrev pub invariant-loop-outcome : goal.invariant-loop-outcome
invariant-loop-outcome l = record {
  long : length l.next ≡ length l.t.atoms;
  grows : Grows (Contains l.plan.states) l.initial.states l.states;
  all : (act : Act) (number : ℕ) (entries : List Entry) → slice_get l.t.acts l.pick.act ≡ Some act → number < l.outcome → slice_get act.outcomes number ≡ Some entries
      → IsProvided l.t l.rules l.plan.choices l.states l.pick.rank (next_state l.pick.state entries);
}
