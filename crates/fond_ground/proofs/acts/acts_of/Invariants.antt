use Rattle.std.proofs.Common.{◌≡◌, ◌++◌, List, true, length, drop}
use Rattle.std.specs.List.{list_all, AllZip}
use Rattle.fond_task.specs.Within.{is_act_within}
use Rattle.fond_task.specs.declared.task.Act.{Act}
use Rattle.fond_ground.specs.Atoms.{fluent_atoms}
use Rattle.fond_ground.specs.Grounds.{kept_actions, IsActOf}
use Rattle.fond_ground.proofs.Kept.{actions_from}
use Rattle.fond_ground.proofs.acts.acts_of.Given as goal

-- the actions so far, with those of the schemas that are left, are the whole
abbrev pub invariant-loop-i : goal.invariant-loop-i
invariant-loop-i l = record {
  within : list_all (is_act_within (length (fluent_atoms l.table.facts.task.now))) l.acts ≡ true;
  acts : (rest : List Act) → AllZip (IsActOf l.table.facts.task.now) (actions_from l.table.facts.task.now l.i (drop l.i l.table.facts.task.now.schemas)) rest
      → AllZip (IsActOf l.table.facts.task.now) (kept_actions l.table.facts.task.now) (l.acts ++ rest);
}
