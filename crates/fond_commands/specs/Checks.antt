-- What `check` replies to the texts of its files.
use Rattle.std.specs.Prelude.{ℕ, List, Bool, ⊤}
use Rattle.fond_ast.specs.declared.task.LiftedTask.{LiftedTask}
use Rattle.fond_task.specs.declared.task.Task.{Task}
use Rattle.fond_policy.specs.declared.cert.Cert.{Cert}
use Rattle.fond_check.specs.Texts.{verdict_text}
use Rattle.fond_check.specs.Verdicts.{IsVerdict}
use Rattle.fond_check.specs.declared.verdict.Verdict.{Verdict}
use Rattle.fond_check.specs.declared.verdict.Verdict.TheVariants.{Accepted}
use Rattle.fond_front.specs.Texts.{Texts}
use Rattle.fond_commands.specs.Certified.{CertReply, Claim}
use Rattle.fond_commands.specs.Replies.{Reply}
use Rattle.fond_commands.specs.declared.status.Ending.{Ending}
use Rattle.fond_commands.specs.declared.status.Ending.TheVariants.{Done, Rejected}

-- a verdict is a fault
abbrev pub IsFault : Verdict → Type 0
IsFault (Accepted lean) = ⊥
IsFault verdict = ⊤

-- the ending after a verdict
abbrev pub verdict_ending : Verdict → Ending
verdict_ending (Accepted lean) = Done
verdict_ending verdict = Rejected

-- the reply to a verdict on a certificate
abbrev pub verdict_reply : Task → Cert → Verdict → Reply
verdict_reply game cert verdict = record { text = verdict_text game cert verdict; ending = verdict_ending verdict }

-- what `check` answers to a certificate of a task with this ground task: it is accepted as correct, and then what it claims of the task is
-- true; or it is rejected with its fault
pub data AnswersCheck (task : LiftedTask) (game : Task) (read : Cert) : Reply → Type 0 where
  accepted : (lean : Bool) → IsVerdict game read (Accepted lean) → Claim task game read → AnswersCheck task game read (verdict_reply game read (Accepted lean))
  rejected : (verdict : Verdict) → IsVerdict game read verdict → IsFault verdict → AnswersCheck task game read (verdict_reply game read verdict)

-- what `check` replies: a refusal of its files, a rejection of the certificate's text, or the answer to the certificate
abbrev pub CheckReply : Texts → List ℕ → Reply → Type 0
CheckReply texts cert = CertReply texts cert AnswersCheck
