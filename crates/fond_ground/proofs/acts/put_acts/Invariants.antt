use Rattle.std.proofs.Common.{◌≡◌, ◌<◌, ◌-◌, ◌++◌, List, Some, true, length, map, drop, slice_get}
use Rattle.std.specs.List.{list_all, AllZip}
use Rattle.fond_task.specs.Within.{is_act_within}
use Rattle.fond_task.specs.declared.task.Act.{Act}
use Rattle.fond_ground.specs.Atoms.{fluent_atoms}
use Rattle.fond_ground.specs.Effects.{is_numbered}
use Rattle.fond_ground.specs.Grounds.{IsActOf}
use Rattle.fond_ground.specs.Limits.{has_few}
use Rattle.fond_ground.specs.Shares.{IsGroundBy}
use Rattle.fond_ground.proofs.acts.put_acts.Given as goal

-- the actions so far, with those of the lists that are left, are the whole
abbrev pub invariant-loop-objects : goal.invariant-loop-objects
invariant-loop-objects l = record {
  numbered : list_all (λ objects. is_numbered l.table.facts.task.now objects l.schema.effect) (drop l.objects-index l.lists) ≡ true;
  few : list_all (has_few l.schema.effect) (drop l.objects-index l.lists) ≡ true;
  last : (act : Act) → l.before < length l.acts → slice_get l.acts (length l.acts - 1) ≡ Some act → IsGroundBy l.table.facts.task.now l.schema act;
  within : list_all (is_act_within (length (fluent_atoms l.table.facts.task.now))) l.initial.acts ≡ true → list_all (is_act_within (length (fluent_atoms l.table.facts.task.now))) l.acts ≡ true;
  acts : (rest : List Act) → AllZip (IsActOf l.table.facts.task.now) (map (λ objects. record { schema = l.number; objects = objects }) (drop l.objects-index l.lists)) rest
      → (more : List Act) × (l.acts ++ rest ≡ l.initial.acts ++ more) × AllZip (IsActOf l.table.facts.task.now) (map (λ objects. record { schema = l.number; objects = objects }) l.lists) more;
}
