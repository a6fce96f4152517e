-- The tasks that three texts describe, and the refusals of texts.
use Rattle.std.specs.Prelude.{◌⊎◌}
use Rattle.fond_text.specs.declared.fault.Fault.{Fault}
use Rattle.fond_ast.specs.declared.task.LiftedTask.{LiftedTask}
use Rattle.fond_front.specs.Texts.{Texts}
use Rattle.fond_front.specs.Tasks.{IsTaskOf, IsFirstFault}
use Rattle.fond_ground.specs.Faults.{IsGroundFault}

-- three texts describe a task: they are read as it, and it is not too large
abbrev pub Describe : Texts → LiftedTask → Type 0
Describe texts task = IsTaskOf texts task × ((fault : Fault) → ¬ IsGroundFault task fault)

-- the fault with which three texts are refused: their first fault, or that of the task that they are read as, if it is too
-- large
abbrev pub IsRefusal : Texts → Fault → Type 0
IsRefusal texts fault = IsFirstFault texts fault ⊎ ((task : LiftedTask) × IsTaskOf texts task × IsGroundFault task fault)
