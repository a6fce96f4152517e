use Rattle.std.proofs.lemmas.Result.{IfOk-weaker}
use Rattle.fond_commands.specs.Replies.{Reply}
use Rattle.fond_tool.proofs.Planned.{decided}
use Rattle.fond_tool.proofs.plan.planned.Goals as goal

pub returns : goal.returns
returns c = IfOk-weaker c.decision_answer.result _ _ (λ (reply : Reply) h. decided c.args.files.task.value c.args.files.game.value c.args.budget c.requires.ground reply h) c.decision_answer.ensures
