use Rattle.std.proofs.Common.{◌≡◌, true, drop, length}
use Rattle.std.specs.List.{list_all}
use Rattle.fond_task.specs.Within.{is_entry_within}
use Rattle.fond_regress.specs.Taken.{TakesFrom}
use Rattle.fond_regress.proofs.regress.explain_change.Given as goal

abbrev pub invariant-loop-entry : goal.invariant-loop-entry
invariant-loop-entry l = record {
  within : list_all (is_entry_within (length l.source)) (drop l.entry-index l.entry-items) ≡ true;
  taken : TakesFrom l.source l.initial.out l.out;
}
