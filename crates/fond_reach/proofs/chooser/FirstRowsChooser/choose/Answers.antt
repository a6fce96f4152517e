use Rattle.std.proofs.Common.{◌≡◌, ◌∙◌, ◌<◌, Some, None, length, sym, subst}
use Rattle.std.specs.Prelude.{position}
use Rattle.fond_rules.specs.declared.table.TableRow.{TableRow}
use Rattle.fond_rules.specs.Tables.{table_choice}
use Rattle.fond_state.specs.Cubes.{lies_in}
use Rattle.fond_reach.specs.Choices.{TaskTable}
use Rattle.fond_reach.proofs.Choosing.{first_act, holds_at, no_act}
use Rattle.fond_reach.proofs.chooser.FirstRowsChooser.choose.Goals as goal

pub returns-in_default-clause-chosen : goal.returns-in_default-clause-chosen
returns-in_default-clause-chosen c =
    let rows = c.self.inside.table.now in
    let state = c.args.state.now in
    let none : position (λ (row : TableRow). lies_in state row.cond) rows ≡ None = sym c.select.ensures ∙ c.in_default.is in
    let P : TaskTable → Type 0 = λ r. None ≡ table_choice r.rows state in
    subst P c.self.view_is (sym (no_act rows (λ row. lies_in state row.cond) (λ row. row.act) none))

pub returns-clause-chosen : goal.returns-clause-chosen
returns-clause-chosen c =
    let rows = c.self.inside.table.now in
    let state = c.args.state.now in
    let found : position (λ (row : TableRow). lies_in state row.cond) rows ≡ Some c.in-Some.row = sym c.select.ensures ∙ c.in-Some.is in
    let P : TaskTable → Type 0 = λ r. Some c.get.result.now.act ≡ table_choice r.rows state in
    subst P c.self.view_is (sym (first_act rows (λ row. lies_in state row.cond) (λ row. row.act) c.in-Some.row c.get.result.now found c.get.ensures))

pub returns-clause-there : goal.returns-clause-there
returns-clause-there c =
    let inside = c.self.inside in
    let P : TaskTable → Type 0 = λ r. c.get.result.now.act < length r.task.acts in
    subst P c.self.view_is (holds_at inside.table.now (λ row. row.act < length inside.task.now.acts) c.in-Some.row c.get.result.now c.self.invariant.there c.get.ensures)
