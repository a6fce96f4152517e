use Rattle.std.proofs.Common.{◌≡◌, ℕ, ◌<◌, true, drop, length}
use Rattle.std.specs.List.{list_all}
use Rattle.fond_state.specs.Cubes.{literal_at}
use Rattle.fond_task.specs.Images.{changed_value, after_changes}
use Rattle.fond_task.specs.Within.{is_entry_within}
use Rattle.fond_task.proofs.image.put_all.Given as goal

abbrev pub invariant-loop-entry : goal.invariant-loop-entry
invariant-loop-entry l = record {
  long : length l.out ≡ length l.initial.out;
  within : list_all (is_entry_within (length l.cube)) (drop l.entry-index l.entry-items) ≡ true;
  put : (k : ℕ) → k < length l.initial.out → after_changes l.adds (changed_value l.adds l.cube (drop l.entry-index l.entry-items) k) (literal_at l.out k)
      ≡ after_changes l.adds (changed_value l.adds l.cube l.entry-items k) (literal_at l.initial.out k);
}
