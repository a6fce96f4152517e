-- The parts of a ground task that its conditions and effects give.
use Rattle.std.specs.Prelude.{◌≡◌, ◌≤◌, List, [], true, map, length}
use Rattle.std.specs.List.{AllZip, list_all}
use Rattle.std.specs.FinSet as set
use Rattle.fond_text.specs.declared.code.TheConstants.{MOST_ACTIONS}
use Rattle.fond_ast.specs.declared.task.LiftedTask.{LiftedTask}
use Rattle.fond_ast.specs.Solutions.{initial}
use Rattle.fond_task.specs.declared.task.Act.{Act}
use Rattle.fond_task.specs.Within.{is_act_within, is_form_within}
use Rattle.fond_ground.specs.declared.ground.Parts.{Parts}
use Rattle.fond_ground.specs.Atoms.{fluent_atoms}
use Rattle.fond_ground.specs.Grounds.{kept_actions, IsActOf}
use Rattle.fond_ground.specs.Limits.{has_few_outcomes}
use Rattle.fond_ground.specs.Values.{StandsFor}

-- actions are those of the ground task: they stand for the kept actions, are over its atoms, and the task is not too large
pub record AreActsOf (task : LiftedTask) (acts : List Act) : Type 0 where
  pub each : AllZip (IsActOf task) (kept_actions task) acts
  pub within : list_all (is_act_within (length (fluent_atoms task))) acts ≡ true
  pub few : length (kept_actions task) ≤ MOST_ACTIONS
  pub few_outcomes : list_all (has_few_outcomes task) task.schemas ≡ true

-- actions, state and goal are those of the ground task, and are over its atoms
pub record ArePartsOf (task : LiftedTask) (parts : Parts) : Type 0 where
  pub acts : AreActsOf task parts.acts
  pub init : parts.init ≡ map (set.contains (initial task)) (fluent_atoms task)
  pub goal : StandsFor task [] task.goal parts.goal
  pub goal_within : is_form_within (length (fluent_atoms task)) parts.goal ≡ true
