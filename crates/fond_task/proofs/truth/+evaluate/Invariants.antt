use Rattle.std.proofs.Common.{◌≡◌, true, map, drop, length}
use Rattle.std.specs.List.{list_all, list_any}
use Rattle.fond_task.specs.Truth.{is_true}
use Rattle.fond_task.specs.Within.{is_form_within}
use Rattle.fond_task.proofs.truth.+evaluate.Given as goal

abbrev pub decreases-evaluate : goal.decreases-evaluate
decreases-evaluate l = goal.size-evaluate l

abbrev pub invariant-loop-part : goal.invariant-loop-part
invariant-loop-part l = record {
  within : list_all (λ b. b) (map (is_form_within (length l.state)) (drop l.part-index l.part-items)) ≡ true;
  truth : list_all (λ b. b) (map (is_true l.state) (drop l.part-index l.part-items)) ≡ is_true l.state l.form;
}

abbrev pub invariant-loop-part-2 : goal.invariant-loop-part-2
invariant-loop-part-2 l = record {
  within : list_all (λ b. b) (map (is_form_within (length l.state)) (drop l.part-index l.part-items)) ≡ true;
  truth : list_any (λ b. b) (map (is_true l.state) (drop l.part-index l.part-items)) ≡ is_true l.state l.form;
}
