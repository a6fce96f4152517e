-- What `demo` replies for a size.
use Rattle.std.specs.Prelude.{◌≢◌, ℕ, List, length}
use Rattle.fond_ast.specs.declared.task.LiftedTask.{LiftedTask}
use Rattle.fond_task.specs.declared.task.Task.{Task}
use Rattle.fond_demo.specs.Demos.{demo_domain, demo_problem, demo_side, shown_text}
use Rattle.fond_front.specs.Texts.{Texts}
use Rattle.fond_commands.specs.Certified.{TaskReply}
use Rattle.fond_tool.specs.Plans.{AnswersPlan}
use Rattle.fond_commands.specs.Replies.{Reply}
use Rattle.fond_commands.specs.declared.status.Ending.TheVariants.{Done}

-- the texts of the task of this size
abbrev pub demo_texts : ℕ → Texts
demo_texts size = record { domain = demo_domain; problem = demo_problem size; side = demo_side }

-- a certificate of a ground task between the lines of `demo`
abbrev pub demo_text : ℕ → Task → List ℕ → List ℕ
demo_text size game = shown_text size (length game.atoms) (length game.acts)

-- what `demo` replies in its task: a policy that `plan` replies with the largest budget, between its lines, or what else `plan`
-- replies
pub data AnswersDemo (size : ℕ) (task : LiftedTask) (game : Task) : Reply → Type 0 where
  policy : (cert : List ℕ) → AnswersPlan task game 1000000 (record { text = cert; ending = Done }) → AnswersDemo size task game (record { text = demo_text size game cert; ending = Done })
  other : (reply : Reply) → AnswersPlan task game 1000000 reply → reply.ending ≢ Done → AnswersDemo size task game reply

-- what `demo` replies for a size: a refusal of its files, or the reply in the task that they describe
abbrev pub DemoReply : ℕ → Reply → Type 0
DemoReply size = TaskReply (demo_texts size) (AnswersDemo size)
