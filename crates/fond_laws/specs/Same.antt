-- The laws of what is the same.
use Rattle.fond_ast.specs.declared.task.LiftedTask.{LiftedTask}
use Rattle.fond_front.specs.Tasks.{IsTaskOf}
use Rattle.fond_front.specs.Texts.{Texts}
use Rattle.fond_ground.specs.Grounds.{IsGroundOf}
use Rattle.fond_task.specs.declared.task.Task.{Task}
use Rattle.fond_laws.specs.Alike.{AreAlike}
use Rattle.fond_laws.specs.Lifted.{IsSameLifted}

-- three texts are read as at most one task, up to addresses and capacities
abbrev pub TextsHaveOneTask : Type 0
TextsHaveOneTask = (texts : Texts) (task other : LiftedTask) → IsTaskOf texts task → IsTaskOf texts other → IsSameLifted task other

-- the ground tasks of tasks that are the same are the same to certificates
abbrev pub GroundTasksAreAlike : Type 0
GroundTasksAreAlike = (task other : LiftedTask) (game another : Task) → IsSameLifted task other → IsGroundOf task game → IsGroundOf other another → AreAlike game another
