-- The names of a task, and how its states are printed.
use Rattle.std.specs.Prelude.{ℕ, List, [], ◌++◌, codes, map, if◌then◌else◌}
use Rattle.std.specs.List.{flat_map}
use Rattle.std.specs.FinSet as set
use Rattle.fond_ast.specs.declared.task.LiftedTask.{LiftedTask}
use Rattle.fond_ast.specs.States.{State}
use Rattle.fond_task.specs.declared.task.Labels.{Labels}
use Rattle.fond_task.specs.Texts.{atom_text}
use Rattle.fond_ground.specs.Atoms.{fluent_atoms}

-- the names of the predicates, objects and schemas of a task
abbrev pub labels_of : LiftedTask → Labels
labels_of task = record {
  predicates = map (λ predicate. predicate.name) task.predicates;
  objects = task.objects;
  schemas = map (λ schema. schema.name) task.schemas;
}

-- the text of a state: the line `state` and a line for each fluent atom that is true, in order
abbrev pub state_text : LiftedTask → State → List ℕ
state_text task state =
    codes "state\n" ++ flat_map (λ atom. if set.contains state atom then atom_text (labels_of task) atom ++ codes "\n" else []) (fluent_atoms task)
