use Rattle.std.proofs.Common.{◌≡◌, ◌+◌, ◌++◌, length, map, drop}
use Rattle.fond_join.specs.Kept.{kept_args}
use Rattle.fond_text.specs.declared.code.TheConstants.{MOST_ACTIONS}
use Rattle.fond_ground.specs.Grounds.{kept_actions}
use Rattle.fond_ground.proofs.Kept.{actions_from}
use Rattle.fond_ground.proofs.acts.kept_lists.Given as goal

-- the lists so far, with those of the schemas that are left, are the whole, and the bound is left without the lists so far
abbrev pub invariant-loop-i : goal.invariant-loop-i
invariant-loop-i l = record {
  lists : l.lists.items ++ map (kept_args l.table.facts.task.now) (drop l.i l.table.facts.task.now.schemas) ≡ map (kept_args l.table.facts.task.now) l.table.facts.task.now.schemas;
  left : length (kept_actions l.table.facts.task.now) + l.most ≡ MOST_ACTIONS + length (actions_from l.table.facts.task.now l.i (drop l.i l.table.facts.task.now.schemas));
}
