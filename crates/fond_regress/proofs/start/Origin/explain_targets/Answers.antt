use Rattle.std.proofs.Common.{◌∙◌, List, slice_get, sym, ap}
use Rattle.std.specs.List.{list_all}
use Rattle.fond_task.specs.Within.{is_entry_within}
use Rattle.fond_task.specs.declared.task.Entry.{Entry}
use Rattle.fond_task.proofs.Found.{all_at}
use Rattle.fond_regress.proofs.start.Origin.explain_targets.Goals as goal

pub explain_target-requires-clause-within : goal.explain_target-requires-clause-within
explain_target-requires-clause-within c = all_at (list_all (is_entry_within _)) c.args.act.now.outcomes c.in-One.outcome c.get.result.now c.requires.within (ap (λ (all : List (List Entry)). slice_get all c.in-One.outcome) (sym c.deref-in-One.ensures) ∙ c.get.ensures)
