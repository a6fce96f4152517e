use Rattle.std.proofs.Common.{◌≡◌, ◌++◌, List, true, length, map, drop}
use Rattle.std.specs.List.{list_all}
use Rattle.fond_ast.specs.Ranges.{objects_of}
use Rattle.fond_ast.specs.Conditions.{tuples}
use Rattle.fond_ast.specs.Outcomes.{outcomes}
use Rattle.fond_oneof.specs.declared.effect.GroundEffect.{GroundEffect}
use Rattle.fond_ground.specs.Effects.{is_numbered, numbered_by, HaveOutcomes}
use Rattle.fond_ground.proofs.effects.+grounding.Given as goal

-- the effects so far, with those of what is left, are the whole
abbrev pub invariant-ground_members-loop-member : goal.invariant-ground_members-loop-member
invariant-ground_members-loop-member l = record {
  env : l.env.items ≡ l.initial.env.items;
  numbered : list_all (λ member. member l.initial.env.items) (map (numbered_by l.table.facts.task.now) (drop l.member-index l.members)) ≡ true;
  effects : (rest : List GroundEffect) → HaveOutcomes l.table.facts.task.now (map (outcomes l.initial.env.items) (drop l.member-index l.members)) rest
      → HaveOutcomes l.table.facts.task.now (map (outcomes l.initial.env.items) l.members) (l.effects.items ++ rest);
}

abbrev pub invariant-ground_instances-loop-alloc : goal.invariant-ground_instances-loop-alloc
invariant-ground_instances-loop-alloc l = record {
  around : l.around ≡ length l.env.items;
  env : l.env.items ≡ l.fn.env.items;
  numbered : list_all (λ objects. is_numbered l.table.facts.task.now (l.fn.env.items ++ objects) l.part) l.tuples ≡ true;
  effects : (rest : List GroundEffect) → HaveOutcomes l.table.facts.task.now (map (λ objects. outcomes (l.fn.env.items ++ objects) l.part) l.tuples) rest
      → HaveOutcomes l.table.facts.task.now (map (λ objects. outcomes (l.fn.env.items ++ objects) l.part) (tuples (objects_of l.ranges))) (l.effects.items ++ rest);
}

abbrev pub decreases-ground_instances-loop-alloc : goal.decreases-ground_instances-loop-alloc
decreases-ground_instances-loop-alloc l = length l.tuples
