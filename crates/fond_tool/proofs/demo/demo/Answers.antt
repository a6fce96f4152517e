use Rattle.fond_commands.specs.Certified.{TaskReply}
use Rattle.fond_tool.specs.Demos.{AnswersDemo, demo_texts}
use Rattle.fond_commands.proofs.Rejections.{refused_files}
use Rattle.fond_tool.proofs.demo.demo.Goals as goal

pub returns-in_err-files-clause-rejected : goal.returns-in_err-files-clause-rejected
returns-in_err-files-clause-rejected c = refused_files (demo_texts c.args.size) (AnswersDemo c.args.size) _ c.in_err-files.field-0.0 c.from_residual.ensures.1 c.in_err-files.ensures.refused

pub demonstrated-requires : goal.demonstrated-requires
demonstrated-requires c = c.in_ok-files.ensures.read.1

pub returns-clause-replied : goal.returns-clause-replied
returns-clause-replied c = TaskReply.answered c.in_ok-files.files.task.value c.in_ok-files.files.game.value c.in_ok-demonstrated.field-0 c.in_ok-files.ensures.read c.in_ok-demonstrated.ensures
