use Rattle.std.proofs.Common.{◌≡◌, ℕ, ◌<◌, true, drop, length}
use Rattle.std.specs.Prelude.{if◌then◌else◌}
use Rattle.std.specs.List.{list_all}
use Rattle.fond_state.specs.Cubes.{truth_at}
use Rattle.fond_task.specs.Steps.{adds, deletes}
use Rattle.fond_task.specs.Within.{is_entry_within}
use Rattle.fond_task.proofs.step.put_all.Given as goal

abbrev pub invariant-loop-entry : goal.invariant-loop-entry
invariant-loop-entry l = record {
  long : length l.out ≡ length l.initial.out;
  within : list_all (is_entry_within (length l.state)) (drop l.entry-index l.entry-items) ≡ true;
  put : (k : ℕ) → k < length l.initial.out → (if (if l.value then adds l.state (drop l.entry-index l.entry-items) k else deletes l.state (drop l.entry-index l.entry-items) k) then l.value else truth_at l.out k)
      ≡ (if (if l.value then adds l.state l.entry-items k else deletes l.state l.entry-items k) then l.value else truth_at l.initial.out k);
}
