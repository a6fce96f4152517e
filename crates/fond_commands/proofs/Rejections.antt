-- Rejections of what a command read, by the errors that they come from.
use Rattle.std.proofs.Common.{◌≡◌, ℕ, Result, Ok, Err, IfOk, IfErr, IfSome, IsErrAnd, Option, Some, None, sym, subst}
use Rattle.fond_text.specs.declared.fault.Fault.{Fault}
use Rattle.fond_text.specs.declared.fault.FrontError.{FrontError}
use Rattle.fond_text.specs.declared.fault.FrontError.TheVariants as front
use Rattle.fond_text.specs.Faults.{Refuses}
use Rattle.fond_cert.specs.Refusals.{CertRefuses}
use Rattle.fond_cert.specs.declared.error.CertError.{CertError}
use Rattle.fond_cert.specs.declared.error.CertError.TheVariants as cert
use Rattle.fond_commands.specs.declared.rejection.Rejection.{Rejection}
use Rattle.fond_commands.specs.Rejections.{Rejects, reply_to, of_files, of_cert}
use Rattle.fond_commands.specs.Replies.{Reply, fault_reply, cert_reply}
use Rattle.fond_ast.specs.declared.task.LiftedTask.{LiftedTask}
use Rattle.fond_front.specs.Texts.{Texts}
use Rattle.fond_task.specs.declared.task.Task.{Task}
use Rattle.fond_commands.specs.Certified.{DescribeGround, TaskReply}
use Rattle.fond_commands.specs.Tasks.{IsRefusal}
use Rattle.std.proofs.lemmas.Result.{IfErr-weaker, IfOk-weaker}

-- a call that hands an error on is rejected as the error is
pub rejected_by : {T : Type 0} (result : Result T Rejection) (rejection : Rejection) (holds : Reply → Type 0) → IsErrAnd result (λ r. r ≡ rejection) → Rejects holds rejection → IfErr result (Rejects holds)
rejected_by (Ok x) rejection holds is h = tt
rejected_by (Err r) rejection holds is h = subst (Rejects holds) (sym is) h

-- files that are refused are so with a fault of which this holds
pub files_rejected : (holds : Reply → Type 0) (faulty : Fault → Type 0) → ((fault : Fault) → faulty fault → holds (fault_reply fault)) → (error : FrontError) → Refuses faulty error → Rejects holds (of_files error)
files_rejected holds faulty gives (front.Refused fault) h = gives fault h
files_rejected holds faulty gives front.NoMemory h = tt

-- a certificate that is refused is so with a fault of which this holds
pub cert_rejected : (holds : Reply → Type 0) (faulty : ℕ → ℕ → Type 0) → ((code byte : ℕ) → faulty code byte → holds (cert_reply code byte)) → (error : CertError) → CertRefuses faulty error → Rejects holds (of_cert error)
cert_rejected holds faulty gives (cert.Refused code byte) h = gives code byte h
cert_rejected holds faulty gives cert.NoMemory h = tt

-- the answer to a rejection has what its reply has
pub replied : (holds : Reply → Type 0) (rejection : Rejection) (reply : Reply) → Rejects holds rejection → reply_to rejection ≡ Some reply → holds reply
replied holds rejection reply rejects is = rw is at rejects

-- a rejection has a reply of which this holds if it has one of which something stronger holds
pub rejects_also : (strong weak : Reply → Type 0) (rejection : Rejection) → ((reply : Reply) → strong reply → weak reply) → Rejects strong rejection → Rejects weak rejection
rejects_also strong weak rejection also rejects = by (reply_to rejection) rejects
  where
    by : (found : Option Reply) → IfSome found strong → IfSome found weak
    by None has = tt
    by (Some reply) has = also reply has

-- the replies of a command that works on the task that three texts describe
module _ (texts : Texts) (Answers : LiftedTask → Task → Reply → Type 0) where
  -- files that are refused are the reason of a rejection
  pub refused_files : {T : Type 0} (result : Result T Rejection) (error : FrontError) → IsErrAnd result (λ rejection. rejection ≡ of_files error) → Refuses (IsRefusal texts) error
      → IfErr result (Rejects (TaskReply texts Answers))
  refused_files result error is refused =
      rejected_by result (of_files error) (TaskReply texts Answers) is (files_rejected (TaskReply texts Answers) (IsRefusal texts) (λ (fault : Fault) first. TaskReply.refused fault first) error refused)

  module _ (task : LiftedTask) (game : Task) (described : DescribeGround texts task game) where
    -- an answer in the task is a reply
    pub task_replied : {E : Type 0} (result : Result Reply E) → IfOk result (Answers task game) → IfOk result (TaskReply texts Answers)
    task_replied result answers = IfOk-weaker result _ _ (λ (reply : Reply) is. TaskReply.answered task game reply described is) answers

    -- a rejection in the task is one of the command
    pub task_rejected : {T : Type 0} (result : Result T Rejection) → IfErr result (Rejects (Answers task game)) → IfErr result (Rejects (TaskReply texts Answers))
    task_rejected result rejects =
        IfErr-weaker result _ _ (λ rejection. rejects_also (Answers task game) (TaskReply texts Answers) rejection (λ (reply : Reply) is. TaskReply.answered task game reply described is)) rejects
