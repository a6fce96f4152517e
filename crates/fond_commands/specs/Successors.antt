-- What `succ` replies to the texts of its files and to the names of its action.
use Rattle.std.specs.Prelude.{ℕ, List, ◌++◌, codes}
use Rattle.fond_text.specs.declared.atom.GroundAction.{GroundAction}
use Rattle.fond_ast.specs.declared.task.LiftedTask.{LiftedTask}
use Rattle.fond_ast.specs.Solutions.{IsApplicable, initial}
use Rattle.fond_front.specs.Texts.{Texts}
use Rattle.fond_succ.specs.Actions.{AreNamesOf, NameNone}
use Rattle.fond_succ.specs.Successors.{IsSuccessorsText}
use Rattle.fond_commands.specs.Certified.{TaskReply}
use Rattle.fond_commands.specs.declared.status.Ending.TheVariants.{Done}
use Rattle.fond_commands.specs.Replies.{Reply, line_reply, action_reply}

-- the reply to a ground action: it is not applicable in the initial state, or these are its successors
pub data AnswersAction (task : LiftedTask) (action : GroundAction) : Reply → Type 0 where
  inapplicable : ¬ IsApplicable task (initial task) action → AnswersAction task action (line_reply (codes "applicable no") Done)
  successors : (text : List ℕ) → IsSuccessorsText task action text → AnswersAction task action (record { text = codes "applicable yes\n" ++ text; ending = Done })

-- the reply to the names of an action: no ground action of the task has them, or this is the reply to the one that has
pub data AnswersNames (task : LiftedTask) (names : List (List ℕ)) : Reply → Type 0 where
  unknown : NameNone task names → AnswersNames task names action_reply
  named : (action : GroundAction) (reply : Reply) → AreNamesOf task names action → AnswersAction task action reply → AnswersNames task names reply

-- what `succ` replies to the names of its action: a refusal of its files, or the reply in the task that they describe
abbrev pub SuccReply : Texts → List (List ℕ) → Reply → Type 0
SuccReply texts names = TaskReply texts (λ task game. AnswersNames task names)
