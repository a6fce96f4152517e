-- The ground task of a task.
use Rattle.std.specs.Prelude.{◌≡◌, Bool, List, [], Option, Some, map, slice_get}
use Rattle.std.specs.Bool.{Decides}
use Rattle.std.specs.List.{AllZip, enumerate_from, flat_map}
use Rattle.std.specs.FinSet as set
use Rattle.fond_text.specs.declared.atom.GroundAction.{GroundAction}
use Rattle.fond_ast.specs.declared.task.LSchema.{LSchema}
use Rattle.fond_ast.specs.declared.task.LiftedTask.{LiftedTask}
use Rattle.fond_ast.specs.Outcomes.{Literal, outcomes}
use Rattle.fond_ast.specs.Patterns.{IsUnfairWith}
use Rattle.fond_ast.specs.Solutions.{initial}
use Rattle.fond_join.specs.Kept.{kept_args}
use Rattle.fond_join.specs.Values.{condition_value}
use Rattle.fond_task.specs.declared.task.Act.{Act}
use Rattle.fond_task.specs.declared.task.Entry.{Entry}
use Rattle.fond_task.specs.declared.task.Task.{Task}
use Rattle.fond_task.specs.Values.{least, value}
use Rattle.fond_ground.specs.Atoms.{atom_number, fluent_atoms}
use Rattle.fond_ground.specs.Texts.{labels_of}
use Rattle.fond_ground.specs.Values.{StandsFor, atom_value}

-- the kept ground actions: those of the schemas, schema by schema
abbrev pub kept_actions : LiftedTask → List GroundAction
kept_actions task = flat_map (λ item. map (λ objects. record { schema = item.0; objects = objects }) (kept_args task item.1)) (enumerate_from 0 task.schemas)

-- an entry stands for a literal of an outcome: it has the number of its atom, and its sign, and on every cube its condition
-- has the least of the values of the conditions around the literal
pub record IsEntryOf (task : LiftedTask) (literal : Literal) (entry : Entry) : Type 0 where
  pub numbered : atom_number task literal.atom ≡ Some entry.atom
  pub signed : entry.add ≡ literal.add
  pub valued : (cube : List (Option Bool)) → value cube entry.cond ≡ least (map (λ guard. condition_value (atom_value task cube) guard.env guard.condition) literal.guards)

-- the outcomes of an action stand for those of an effect: outcome by outcome, and entry by entry
abbrev pub AreOutcomesOf : LiftedTask → List (List Literal) → List (List Entry) → Type 0
AreOutcomesOf task = AllZip (AllZip (IsEntryOf task))

-- an action of the ground task stands for a ground action: it has its name, precondition, fairness and outcomes
pub record IsActOf (task : LiftedTask) (action : GroundAction) (act : Act) : Type 0 where
  pub schema : LSchema
  pub numbered : slice_get task.schemas action.schema ≡ Some schema
  pub named : act.ground ≡ action
  pub pre : StandsFor task action.objects schema.pre act.pre
  pub unfair : Decides act.unfair (IsUnfairWith schema action.objects)
  pub outcomes : AreOutcomesOf task (outcomes action.objects schema.effect) act.outcomes

-- a ground task stands for a task: it has its fluent atoms, its kept actions in order, its initial state, goal and names
pub record IsGroundOf (task : LiftedTask) (ground : Task) : Type 0 where
  pub atoms : ground.atoms ≡ fluent_atoms task
  pub acts : AllZip (IsActOf task) (kept_actions task) ground.acts
  pub init : ground.init ≡ map (set.contains (initial task)) (fluent_atoms task)
  pub goal : StandsFor task [] task.goal ground.goal
  pub labels : ground.labels ≡ labels_of task
