use Rattle.std.specs.List.{list_all}
use Rattle.fond_task.specs.Within.{is_entry_within}
use Rattle.fond_task.proofs.Found.{all_at}
use Rattle.fond_regress.proofs.start.Origin.explain_each.Goals as goal

pub explain_target-requires-clause-within : goal.explain_target-requires-clause-within
explain_target-requires-clause-within c = all_at (list_all (is_entry_within _)) c.args.outcomes.now c.loop-i.i c.get.result.now c.requires.within c.get.ensures
