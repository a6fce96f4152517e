use Rattle.std.proofs.Common.{sym, subst}
use Rattle.fond_task.specs.declared.task.Task.{Task}
use Rattle.fond_commands.specs.Certified.{CertReply, IsCertText}
use Rattle.fond_commands.specs.Migrations.{AnswersMigrate}
use Rattle.fond_commands.proofs.CertReplies.{not_read}
use Rattle.fond_commands.proofs.migrate.migrate.Goals as goal

pub returns-in_err-files-clause-rejected : goal.returns-in_err-files-clause-rejected
returns-in_err-files-clause-rejected c = not_read c.args.texts.now c.args.cert.now (λ task. AnswersMigrate c.args.cert.now) _ c.in_err-files.field-0.0 c.from_residual.ensures.1 c.in_err-files.ensures.rejected

pub migrated-requires : goal.migrated-requires
migrated-requires c = subst (λ (game : Task). IsCertText game c.in_ok-files.field-0.cert c.args.cert.now) (sym c.deref.ensures) c.in_ok-files.ensures.spelled

pub returns-clause-replied : goal.returns-clause-replied
returns-clause-replied c =
    let read = c.in_ok-files.field-0 in
    CertReply.answered read.files.task.value read.files.game.value read.cert c.in_ok-migrated.field-0 c.in_ok-files.ensures.described c.in_ok-files.ensures.spelled (rw c.deref.ensures at c.in_ok-migrated.ensures)
