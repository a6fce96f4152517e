use Rattle.std.proofs.Common.{◌≡◌, true, map, drop, length}
use Rattle.std.specs.List.{list_all}
use Rattle.fond_task.specs.Within.{is_form_within}
use Rattle.fond_regress.specs.Taken.{TakesFrom}
use Rattle.fond_regress.proofs.explain.+explain.Given as goal

abbrev pub decreases-explain : goal.decreases-explain
decreases-explain l = goal.size-explain l

abbrev pub invariant-loop-part : goal.invariant-loop-part
invariant-loop-part l = record {
  within : list_all (λ b. b) (map (is_form_within (length l.source)) (drop l.part-index l.part-items)) ≡ true;
  taken : TakesFrom l.source l.initial.out l.out;
}
