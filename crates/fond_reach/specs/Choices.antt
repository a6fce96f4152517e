-- A rule list or a table for a task.
use Rattle.std.specs.Prelude.{List}
use Rattle.fond_rules.specs.declared.table.TableRow.{TableRow}
use Rattle.fond_task.specs.declared.rule.Rule.{Rule}
use Rattle.fond_task.specs.declared.task.Task.{Task}

-- a task with rules
pub record TaskRules : Type 0 where
  pub task : Task
  pub rules : List Rule

-- a task with a table
pub record TaskTable : Type 0 where
  pub task : Task
  pub rows : List TableRow
