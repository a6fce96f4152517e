-- What `explain` replies to the texts of its files.
use Rattle.std.specs.Prelude.{◌≡◌, ◌<◌, ◌^◌, ℕ, List, length}
use Rattle.fond_state.specs.Games.{ReachesMore}
use Rattle.fond_games.specs.Told.{TellsNone, TellsSolution}
use Rattle.fond_ast.specs.declared.task.LiftedTask.{LiftedTask}
use Rattle.fond_ast.specs.Solutions.{Policy, game}
use Rattle.fond_task.specs.declared.task.Task.{Task}
use Rattle.fond_rules.specs.Tables.{BelongAsRows}
use Rattle.fond_rules.specs.declared.table.TableRow.{TableRow}
use Rattle.fond_cert.specs.Faults.{IsTableFault}
use Rattle.fond_cert.specs.Spellings.{table_spelling}
use Rattle.fond_ground.specs.Texts.{state_text}
use Rattle.fond_lasso.specs.declared.tell.Told.{Told}
use Rattle.fond_lasso.specs.declared.tell.Told.TheVariants.{Solution, NoSolution, Spent}
use Rattle.fond_succ.specs.Solutions.{table_policy}
use Rattle.fond_front.specs.Texts.{Texts}
use Rattle.fond_commands.specs.Certified.{TaskReply}
use Rattle.fond_commands.specs.Replies.{Reply, cert_reply, undecided_reply}
use Rattle.fond_commands.specs.declared.status.Ending.TheVariants.{Done, NotSolution}

-- what is explained about a policy of a task: it is a solution, with the ranks of the states that it reaches and that are no goals; it is
-- none, with a run on which it gets stuck, or a lasso; or it reaches more states than the limit
pub data Explains (task : LiftedTask) (policy : Policy) (limit : ℕ) : Reply → Type 0 where
  solution : (text : List ℕ) → ¬ ReachesMore (game task) policy limit → TellsSolution (game task) (state_text task) policy text → Explains task policy limit (record { text = text; ending = Done })
  none : (text : List ℕ) → ¬ ReachesMore (game task) policy limit → TellsNone (game task) (state_text task) policy text → Explains task policy limit (record { text = text; ending = NotSolution })
  undecided : ReachesMore (game task) policy limit → Explains task policy limit (undecided_reply limit)

-- the reply of what is told about a policy
abbrev pub told_reply : ℕ → Told → Reply
told_reply limit (Solution text) = record { text = text.items; ending = Done }
told_reply limit (NoSolution text) = record { text = text.items; ending = NotSolution }
told_reply limit Spent = undecided_reply limit

-- a text is that of a table of a ground task, with fewer than 2^32 rows
abbrev pub IsTableText : Task → List TableRow → List ℕ → Type 0
IsTableText game rows text = BelongAsRows game rows × (length rows < 2 ^ 32) × (text ≡ table_spelling game rows)

-- what `explain` answers to the text of a table, in a task with this ground task: a rejection with its first fault, or what is explained
-- about the policy of the table
pub data AnswersExplain (text : List ℕ) (limit : ℕ) (task : LiftedTask) (game : Task) : Reply → Type 0 where
  no_table : (code byte : ℕ) → IsTableFault game text code byte → AnswersExplain text limit task game (cert_reply code byte)
  explained : (rows : List TableRow) (reply : Reply) → IsTableText game rows text → Explains task (table_policy task game rows) limit reply → AnswersExplain text limit task game reply

-- what `explain` replies: a refusal of its files, or the answer to the table in the task that they describe
abbrev pub ExplainReply : Texts → List ℕ → ℕ → Reply → Type 0
ExplainReply texts table limit = TaskReply texts (AnswersExplain table limit)
