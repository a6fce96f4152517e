use Rattle.std.proofs.Common.{◌≡◌, true, map, drop, length}
use Rattle.std.specs.Prelude.{fold}
use Rattle.std.specs.List.{list_all}
use Rattle.fond_task.specs.Values.{lesser, greater, value}
use Rattle.fond_task.specs.Within.{is_form_within}
use Rattle.fond_task.proofs.value.+value.Given as goal

abbrev pub decreases-value : goal.decreases-value
decreases-value l = goal.size-value l

abbrev pub invariant-loop-part : goal.invariant-loop-part
invariant-loop-part l = record {
  within : list_all (λ b. b) (map (is_form_within (length l.cube)) (drop l.part-index l.part-items)) ≡ true;
  value : fold lesser l.least (map (value l.cube) (drop l.part-index l.part-items)) ≡ value l.cube l.form;
}

abbrev pub invariant-loop-part-2 : goal.invariant-loop-part-2
invariant-loop-part-2 l = record {
  within : list_all (λ b. b) (map (is_form_within (length l.cube)) (drop l.part-index l.part-items)) ≡ true;
  value : fold greater l.greatest (map (value l.cube) (drop l.part-index l.part-items)) ≡ value l.cube l.form;
}
