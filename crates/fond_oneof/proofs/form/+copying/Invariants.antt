use Rattle.std.proofs.Common.{◌≡◌, ◌++◌, ℕ, List, Bool, Option, map, drop}
use Rattle.fond_task.specs.Values.{value}
use Rattle.fond_task.specs.Within.{is_form_within}
use Rattle.fond_oneof.proofs.form.+copying.Given as goal

abbrev pub invariant-all_copied-loop-part : goal.invariant-all_copied-loop-part
invariant-all_copied-loop-part l = record {
  valued : (cube : List (Option Bool)) → map (value cube) l.copies.items ++ map (value cube) (drop l.part-index l.parts) ≡ map (value cube) l.parts;
  over : (atoms : ℕ) → map (is_form_within atoms) l.copies.items ++ map (is_form_within atoms) (drop l.part-index l.parts) ≡ map (is_form_within atoms) l.parts;
}
