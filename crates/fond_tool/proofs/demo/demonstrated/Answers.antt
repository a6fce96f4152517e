use Rattle.std.proofs.Common.{◌∙◌, sym}
use Rattle.std.proofs.lemmas.Result.{IfOk-weaker}
use Rattle.fond_tool.specs.Demos.{AnswersDemo}
use Rattle.fond_commands.specs.Replies.{Reply}
use Rattle.fond_tool.proofs.Shown.{shown_between}
use Rattle.fond_tool.proofs.demo.demonstrated.Goals as goal

pub returns-in-Done : goal.returns-in-Done
returns-in-Done c =
    let size = c.args.size in
    let task = c.args.files.task.value in
    let game = c.args.files.game.value in
    let planned = c.in_ok-planned.planned in
    IfOk-weaker c.demo_answer.result _ _ (λ (reply : Reply) same. shown_between size task game planned reply c.in_ok-planned.ensures (sym c.ending.ensures ∙ c.in-Done.is) (rw (c.len-atoms.ensures, c.len-actions.ensures, c.deref.ensures, c.deref-2.ensures) at same)) c.demo_answer.ensures

pub returns-in_default : goal.returns-in_default
returns-in_default c = AnswersDemo.other c.in_ok-planned.planned c.in_ok-planned.ensures (λ done. c.in_default.not-Done (c.ending.ensures ∙ done))
