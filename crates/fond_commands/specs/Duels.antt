-- What `duel` replies to the texts of its files.
use Rattle.std.specs.Prelude.{◌≡◌, ℕ, List, Bool, length}
use Rattle.fond_ast.specs.declared.task.LiftedTask.{LiftedTask}
use Rattle.fond_ast.specs.Solutions.{initial}
use Rattle.fond_task.specs.declared.task.Task.{Task}
use Rattle.fond_policy.specs.declared.cert.Cert.{Cert}
use Rattle.fond_state.specs.Traces.{as_recorded}
use Rattle.fond_exec.specs.Duels.{ArePicks}
use Rattle.fond_exec.specs.Traces as ground
use Rattle.fond_succ.specs.Stands.{stands}
use Rattle.fond_succ.specs.Traces.{Trace}
use Rattle.fond_front.specs.Texts.{Texts}
use Rattle.fond_commands.specs.Certified.{CertReply, rules_of}
use Rattle.fond_commands.specs.Replies.{Reply, trace_reply}

-- what `duel` answers to a certificate of a task with this ground task: the trace of its rules over the picks of a duel of so many steps, in
-- the ground task and so in the task
pub data AnswersDuel (steps : ℕ) (task : LiftedTask) (game : Task) (read : Cert) : Reply → Type 0 where
  fought : (words lines : List ℕ) (last : List Bool) → length words ≡ steps → ArePicks game (rules_of read) game.init words → ground.Trace as_recorded game (rules_of read) game.init words lines last
      → Trace as_recorded task game (rules_of read) (initial task) words lines (stands task last) → AnswersDuel steps task game read (trace_reply task lines (stands task last))

-- what `duel` replies: a refusal of its files, a rejection of the certificate's text, or the answer to the certificate
abbrev pub DuelReply : Texts → List ℕ → ℕ → Reply → Type 0
DuelReply texts cert steps = CertReply texts cert (AnswersDuel steps)
