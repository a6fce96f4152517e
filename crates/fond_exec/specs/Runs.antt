-- A run of a rule list through the states of a task.
use Rattle.std.specs.Prelude.{List, Bool}
use Rattle.fond_task.specs.declared.task.Task.{Task}
use Rattle.fond_task.specs.declared.rule.Rule.{Rule}

-- the task and the rules of a run, and the state that it is in
pub record Run : Type 0 where
  pub task : Task
  pub rules : List Rule
  pub state : List Bool
