use Rattle.std.proofs.Common.{◌<◌, ◌^◌, List, length, subst}
use Rattle.fond_rules.specs.declared.table.TableRow.{TableRow}
use Rattle.fond_commands.specs.Explanations.{AnswersExplain}
use Rattle.fond_commands.specs.Rejections.{of_cert}
use Rattle.fond_commands.proofs.Explained.{answers}
use Rattle.fond_commands.proofs.Rejections.{cert_rejected, rejected_by}
use Rattle.fond_commands.proofs.explain.explained.Goals as goal

pub returns-in_err-table-clause-rejected : goal.returns-in_err-table-clause-rejected
returns-in_err-table-clause-rejected c =
    let holds = AnswersExplain c.args.text.now c.args.limit c.args.task.now c.args.game.now in
    let error = c.in_err-table.field-0.0 in
    rejected_by _ (of_cert error) holds c.from_residual.ensures.1 (cert_rejected holds _ (λ code byte fault. AnswersExplain.no_table code byte fault) error c.in_err-table.ensures.refused)

pub returns-clause-replied : goal.returns-clause-replied
returns-clause-replied c =
    let few : length c.in_ok-table.table < 2 ^ 32 = (let P : List TableRow → Type 0 = λ rows. length rows < 2 ^ 32 in subst P c.table.view_is c.table.invariant.0) in
    answers c.args.task.now c.args.game.now c.requires.ground c.args.text.now c.in_ok-table.table c.args.limit c.in_ok-judged.field-0 c.in_ok-table.ensures.belongs few c.in_ok-table.ensures.read c.in_ok-judged.ensures
