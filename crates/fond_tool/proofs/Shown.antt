-- What `demo` replies where it does not end with a refusal of its files.
use Rattle.std.proofs.Common.{◌≡◌, ℕ, sym, subst}
use Rattle.fond_ast.specs.declared.task.LiftedTask.{LiftedTask}
use Rattle.fond_task.specs.declared.task.Task.{Task}
use Rattle.fond_tool.specs.Demos.{AnswersDemo, demo_text}
use Rattle.fond_tool.specs.Plans.{AnswersPlan}
use Rattle.fond_commands.specs.Replies.{Reply}
use Rattle.fond_commands.specs.declared.status.Ending.TheVariants.{Done}

-- a reply of `plan` that is done is shown between the lines of `demo`
pub shown_between : (size : ℕ) (task : LiftedTask) (game : Task) (planned reply : Reply) → AnswersPlan task game 1000000 planned → planned.ending ≡ Done → reply ≡ record { text = demo_text size game planned.text; ending = Done } → AnswersDemo size task game reply
shown_between size task game planned reply answers done same =
    let P : Reply → Type 0 = AnswersPlan task game 1000000 in
    let also : planned ≡ record { text = planned.text; ending = Done } = λ i. record { text = planned.text; ending = done i } in
    subst (AnswersDemo size task game) (sym same) (AnswersDemo.policy planned.text (subst P also answers))
