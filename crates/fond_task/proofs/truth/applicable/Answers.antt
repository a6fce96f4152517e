use Rattle.std.proofs.Common.{◌∙◌, length, ap}
use Rattle.fond_task.specs.Within.{is_form_within}
use Rattle.fond_task.proofs.Found.{pre_within}
use Rattle.fond_task.proofs.truth.applicable.Goals as goal

pub evaluate-requires : goal.evaluate-requires
evaluate-requires c =
    let task = c.args.task.now in
    rw (c.requires.long) (ap (is_form_within (length task.atoms)) c.deref.ensures ∙ pre_within _ task.acts _ c.get.result.now task.acts_within c.get.ensures)
