use Rattle.fond_commands.specs.Ratings.{AnswersRate}
use Rattle.fond_commands.proofs.Rejections.{refused_files, task_rejected, task_replied}
use Rattle.fond_commands.proofs.rate.rate_cert.Goals as goal

pub returns-in_err-files-clause-rejected : goal.returns-in_err-files-clause-rejected
returns-in_err-files-clause-rejected c = refused_files c.args.texts.now (AnswersRate c.args.cert.now) _ c.in_err-files.field-0.0 c.from_residual.ensures.1 c.in_err-files.ensures.refused

pub rated-requires : goal.rated-requires
rated-requires c = rw (c.deref-task.ensures, c.deref-game.ensures) c.in_ok-files.ensures.read.1

pub returns-clause-replied : goal.returns-clause-replied
returns-clause-replied c =
    task_replied c.args.texts.now (AnswersRate c.args.cert.now) c.in_ok-files.files.task.value c.in_ok-files.files.game.value c.in_ok-files.ensures.read c.rated.result
    (rw (c.deref-task.ensures, c.deref-game.ensures) at c.rated.ensures.replied)

pub returns-clause-rejected : goal.returns-clause-rejected
returns-clause-rejected c =
    task_rejected c.args.texts.now (AnswersRate c.args.cert.now) c.in_ok-files.files.task.value c.in_ok-files.files.game.value c.in_ok-files.ensures.read c.rated.result
    (rw (c.deref-task.ensures, c.deref-game.ensures) at c.rated.ensures.rejected)
