use Rattle.fond_commands.specs.Certified.{TaskReply}
use Rattle.fond_tool.specs.Bests.{AnswersBest}
use Rattle.fond_commands.proofs.Rejections.{refused_files}
use Rattle.fond_tool.proofs.best.find_best.Goals as goal

pub returns-in_err-files-clause-rejected : goal.returns-in_err-files-clause-rejected
returns-in_err-files-clause-rejected c = refused_files c.args.texts.now (λ task game. AnswersBest task game c.args.budget) _ c.in_err-files.field-0.0 c.from_residual.ensures.1 c.in_err-files.ensures.refused

pub returns-clause-replied : goal.returns-clause-replied
returns-clause-replied c = TaskReply.answered c.in_ok-files.files.task.value c.in_ok-files.files.game.value c.in_ok-shortest.field-0 c.in_ok-files.ensures.read c.in_ok-shortest.ensures
