use Rattle.std.proofs.Common.{◌≡◌, ◌++◌, List, Bool, true, Option, length, map, drop}
use Rattle.std.specs.List.{fold, list_all}
use Rattle.fond_ast.specs.Ranges.{objects_of}
use Rattle.fond_join.specs.Values.{condition_value}
use Rattle.fond_ast.specs.Conditions.{tuples}
use Rattle.fond_task.specs.Junctions.{joined, joined_all}
use Rattle.fond_task.specs.Within.{is_form_within}
use Rattle.fond_ground.specs.Atoms.{fluent_atoms}
use Rattle.fond_ground.specs.Signs.{junction_value, signed}
use Rattle.fond_ground.specs.Values.{atom_value}
use Rattle.fond_ground.proofs.Alike.{AreLong}
use Rattle.fond_ground.proofs.forms.+forming.Given as goal

-- the parts so far and those that are left give the whole
abbrev pub invariant-members_form-loop-member : goal.invariant-members_form-loop-member
invariant-members_form-loop-member l = record {
  env : l.env.items ≡ l.initial.env.items;
  kind : l.whole.junction ≡ l.fn.junction;
  within : list_all (is_form_within (length (fluent_atoms l.table.facts.task.now))) l.whole.parts.items ≡ true;
  value : (cube : List (Option Bool)) → fold (joined l.fn.junction) (junction_value cube l.whole) (map (λ member. signed l.sign (condition_value (atom_value l.table.facts.task.now cube) l.initial.env.items member)) (drop l.member-index l.members))
      ≡ joined_all l.fn.junction (map (λ member. signed l.sign (condition_value (atom_value l.table.facts.task.now cube) l.initial.env.items member)) l.members);
}

abbrev pub invariant-instances_form-loop-alloc : goal.invariant-instances_form-loop-alloc
invariant-instances_form-loop-alloc l = record {
  around : l.around ≡ length l.env.items;
  env : l.env.items ≡ l.fn.env.items;
  long : AreLong (length l.ranges) l.tuples;
  kind : l.whole.junction ≡ l.fn.junction;
  within : list_all (is_form_within (length (fluent_atoms l.table.facts.task.now))) l.whole.parts.items ≡ true;
  value : (cube : List (Option Bool)) → fold (joined l.fn.junction) (junction_value cube l.whole) (map (λ objects. signed l.sign (condition_value (atom_value l.table.facts.task.now cube) (l.fn.env.items ++ objects) l.part)) l.tuples)
      ≡ joined_all l.fn.junction (map (λ objects. signed l.sign (condition_value (atom_value l.table.facts.task.now cube) (l.fn.env.items ++ objects) l.part)) (tuples (objects_of l.ranges)));
}

abbrev pub decreases-instances_form-loop-alloc : goal.decreases-instances_form-loop-alloc
decreases-instances_form-loop-alloc l = length l.tuples
