-- What `plan` replies to the texts of its files, for a budget.
use Rattle.std.specs.Prelude.{ℕ, List}
use Rattle.fond_ast.specs.declared.task.LiftedTask.{LiftedTask}
use Rattle.fond_ast.specs.Solutions.{IsSolution, IsSolvable, More}
use Rattle.fond_task.specs.declared.task.Task.{Task}
use Rattle.fond_task.specs.declared.rule.Pair.{Pair}
use Rattle.fond_task.specs.declared.rule.Rule.{Rule}
use Rattle.fond_task.specs.Layers.{CubeView}
use Rattle.fond_task.specs.Certificates.{IsRightRefusal}
use Rattle.fond_policy.specs.declared.item.Item.{Item}
use Rattle.fond_policy.specs.declared.cert.Cert.TheVariants.{Refusal, Covered}
use Rattle.fond_policy.specs.Parts.{AreAllLean, IsRightCover}
use Rattle.fond_regress.specs.Stable.{IsHopeless}
use Rattle.fond_succ.specs.Solutions.{rules_policy}
use Rattle.fond_front.specs.Texts.{Texts}
use Rattle.fond_commands.specs.Certified.{IsCertText, TaskReply}
use Rattle.fond_commands.specs.Replies.{Reply, undecided_reply}
use Rattle.fond_commands.specs.declared.status.Ending.TheVariants.{Done, Unsolvable}

-- what `plan` replies in a task with this ground task: the text of a correct policy certificate with a cover, whose pairs,
-- rules and items are lean, and whose rules are a solution of the task, which then is solvable; the text of a correct refusal,
-- and the task has no solution; or `undecided`, and more states are reachable than the budget, and the initial state is not
-- hopeless
pub data AnswersPlan (task : LiftedTask) (game : Task) (budget : ℕ) : Reply → Type 0 where
  policy : (layers : List (List CubeView)) (pairs : List Pair) (rules : List Rule) (items : List Item) (start : ℕ) (text : List ℕ) → IsCertText game (Covered layers pairs rules items start) text
      → IsRightCover game layers pairs rules items start → AreAllLean game layers pairs rules items → IsSolution task (rules_policy task game rules) → IsSolvable task
      → AnswersPlan task game budget (record { text = text; ending = Done })
  unsolvable : (layers : List (List CubeView)) (text : List ℕ) → IsCertText game (Refusal layers) text → IsRightRefusal game layers → ¬ IsSolvable task
      → AnswersPlan task game budget (record { text = text; ending = Unsolvable })
  undecided : More task budget → ¬ IsHopeless game game.init → AnswersPlan task game budget (undecided_reply budget)

-- what `plan` replies for a budget: a refusal of its files, or the reply in the task that they describe
abbrev pub PlanReply : Texts → ℕ → Reply → Type 0
PlanReply texts budget = TaskReply texts (λ task game. AnswersPlan task game budget)
