-- What `best` replies to the texts of its files, for a budget.
use Rattle.std.specs.Prelude.{ℕ, List}
use Rattle.fond_games.specs.Ranks.{IsBest}
use Rattle.fond_ast.specs.declared.task.LiftedTask.{LiftedTask}
use Rattle.fond_ast.specs.Solutions.{IsSolvable, More, game}
use Rattle.fond_task.specs.declared.task.Task.{Task}
use Rattle.fond_task.specs.Layers.{CubeView}
use Rattle.fond_task.specs.Certificates.{IsRightRefusal}
use Rattle.fond_policy.specs.declared.best.BestCert.{BestCert}
use Rattle.fond_policy.specs.declared.cert.Cert.TheVariants.{Refusal}
use Rattle.fond_cert.specs.Spellings.{best_spelling, spelling}
use Rattle.fond_best.specs.Certificates.{IsRightBest}
use Rattle.fond_shortest.specs.declared.answer.BestAnswer.{BestAnswer}
use Rattle.fond_shortest.specs.declared.answer.BestAnswer.TheVariants.{Least, Refusal as Refused, Undecided}
use Rattle.fond_succ.specs.Solutions.{rules_policy}
use Rattle.fond_front.specs.Texts.{Texts}
use Rattle.fond_commands.specs.Certified.{IsCertText, TaskReply}
use Rattle.fond_commands.specs.Ratings.{IsBestText}
use Rattle.fond_commands.specs.Replies.{Reply, undecided_reply}
use Rattle.fond_commands.specs.declared.status.Ending.TheVariants.{Done, Unsolvable}

-- the reply to what is found of the least rank
abbrev pub best_reply : Task → ℕ → BestAnswer → Reply
best_reply ground budget (Least cert) = record { text = best_spelling ground cert; ending = Done }
best_reply ground budget (Refused cert) = record { text = spelling ground cert; ending = Unsolvable }
best_reply ground budget Undecided = undecided_reply budget

-- what `best` replies in a task with this ground task: the text of a correct certificate of least rank, whose rules are a solution of
-- this rank, and then no solution that is a finite map has a smaller one, and the task is solvable; the text of a correct refusal, and
-- no finite map is a solution; or `undecided`, and more states are reachable than the budget
pub data AnswersBest (task : LiftedTask) (ground : Task) (budget : ℕ) : Reply → Type 0 where
  least : (cert : BestCert) (rank : ℕ) (text : List ℕ) → IsBestText ground cert text → IsRightBest ground cert rank → IsBest (game task) (rules_policy task ground cert.rules) rank → IsSolvable task
      → AnswersBest task ground budget (record { text = text; ending = Done })
  unsolvable : (layers : List (List CubeView)) (text : List ℕ) → IsCertText ground (Refusal layers) text → IsRightRefusal ground layers → ¬ IsSolvable task
      → AnswersBest task ground budget (record { text = text; ending = Unsolvable })
  undecided : More task budget → AnswersBest task ground budget (undecided_reply budget)

-- what `best` replies for a budget: a refusal of its files, or the reply in the task that they describe
abbrev pub BestReply : Texts → ℕ → Reply → Type 0
BestReply texts budget = TaskReply texts (λ task ground. AnswersBest task ground budget)
