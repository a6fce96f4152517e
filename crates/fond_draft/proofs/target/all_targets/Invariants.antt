use Rattle.std.proofs.Common.{◌≡◌, ℕ, length, slice_get, Some, List}
use Rattle.fond_task.specs.Steps.{next_state}
use Rattle.fond_task.specs.declared.task.Act.{Act}
use Rattle.fond_task.specs.declared.task.Entry.{Entry}
use Rattle.fond_task.specs.declared.rule.Target.{Target}
use Rattle.fond_draft.specs.Targets.{LeadsOn}
use Rattle.fond_draft.proofs.target.all_targets.Given as goal

-- there is a target for each outcome so far
abbrev pub invariant-loop-outcome : goal.invariant-loop-outcome
invariant-loop-outcome l = record {
  long : length l.next ≡ length l.t.atoms;
  count : length l.targets ≡ l.outcome;
  each : (act : Act) (at : ℕ) (target : Target) (entries : List Entry) → slice_get l.t.acts l.act ≡ Some act → slice_get l.targets at ≡ Some target → slice_get act.outcomes at ≡ Some entries
      → LeadsOn l.t l.rules (next_state l.state entries) target;
}
