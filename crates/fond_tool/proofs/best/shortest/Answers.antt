use Rattle.std.proofs.Common.{◌∙◌, ap, subst}
use Rattle.std.proofs.lemmas.Result.{IfOk-weaker}
use Rattle.fond_commands.specs.Replies.{Reply}
use Rattle.fond_shortest.specs.Bests.{IsBestAnswer}
use Rattle.fond_task.specs.declared.task.Task.{Task}
use Rattle.fond_tool.specs.Bests.{best_reply}
use Rattle.fond_tool.proofs.Bested.{replied}
use Rattle.fond_tool.proofs.best.shortest.Goals as goal

pub returns : goal.returns
returns c =
    let P : Task → Type 0 = λ game. IsBestAnswer game c.args.budget c.in_ok-found.found in
    let right = subst P c.deref-game.ensures c.in_ok-found.ensures in
    IfOk-weaker c.answer_of.result _ _
    (λ (reply : Reply) h. replied c.args.files.task.value c.args.files.game.value c.args.budget c.requires.ground c.in_ok-found.found right reply (h ∙ ap (λ game. best_reply game c.args.budget c.in_ok-found.found) c.deref-game.ensures))
    c.answer_of.ensures
