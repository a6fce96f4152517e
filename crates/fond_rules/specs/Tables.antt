-- Tables as policies.
use Rattle.std.specs.Prelude.{◌≡◌, ◌<◌, List, All, length, option_map, find}
use Rattle.fond_state.specs.Cubes.{lies_in}
use Rattle.fond_task.specs.declared.task.Task.{Task}
use Rattle.fond_task.specs.Policies.{Policy}
use Rattle.fond_rules.specs.declared.table.TableRow.{TableRow}

-- the policy of a table chooses the action of the first row whose literals all hold in the state
abbrev pub table_choice : List TableRow → Policy
table_choice rows state = option_map (λ row. row.act) (find (λ row. lies_in state row.cond) rows)

-- a table belongs to a task: the conditions of its rows are over its atoms, and it has their actions
pub record BelongAsRows (task : Task) (rows : List TableRow) : Type 0 where
  pub over : All (λ row. length row.cond ≡ length task.atoms) rows
  pub there : All (λ row. row.act < length task.acts) rows
