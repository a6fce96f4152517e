-- Replies to certificates, from what was read of the files and of the certificate's text.
use Rattle.std.proofs.Common.{◌≡◌, ℕ, List, Result, IfOk, IfErr, IsErrAnd, subst}
use Rattle.std.proofs.lemmas.Result.{IfOk-weaker}
use Rattle.fond_ast.specs.declared.task.LiftedTask.{LiftedTask}
use Rattle.fond_cert.specs.Faults.{IsCertFault}
use Rattle.fond_cert.specs.Refusals.{CertRefuses}
use Rattle.fond_cert.specs.declared.error.CertError.{CertError}
use Rattle.fond_front.specs.Texts.{Texts}
use Rattle.fond_policy.specs.declared.cert.Cert.{Cert}
use Rattle.fond_task.specs.declared.task.Task.{Task}
use Rattle.fond_text.specs.declared.fault.Fault.{Fault}
use Rattle.fond_text.specs.declared.fault.FrontError.{FrontError}
use Rattle.fond_text.specs.Faults.{Refuses}
use Rattle.fond_commands.specs.declared.rejection.Rejection.{Rejection}
use Rattle.fond_commands.specs.Certified.{CertReply, DescribeGround, IsCertText, NoAnswer}
use Rattle.fond_commands.specs.Rejections.{Rejects, of_cert, of_files}
use Rattle.fond_commands.specs.Replies.{Reply}
use Rattle.fond_commands.specs.Tasks.{IsRefusal}
use Rattle.fond_commands.proofs.Rejections.{cert_rejected, files_rejected, rejected_by, rejects_also}

module _ (texts : Texts) (cert : List ℕ) where
  module _ (Answers : LiftedTask → Task → Cert → Reply → Type 0) where
    -- a reply without an answer is a reply of each command
    also : (reply : Reply) → CertReply texts cert NoAnswer reply → CertReply texts cert Answers reply
    also reply (CertReply.refused fault refusal) = CertReply.refused fault refusal
    also reply (CertReply.no_cert task game code byte described fault) = CertReply.no_cert task game code byte described fault
    also reply (CertReply.answered task game read own described spelled none) = absurd none

    -- a rejection of the files or of the certificate's text is one of each command
    pub not_read : {T : Type 0} (result : Result T Rejection) (rejection : Rejection) → IsErrAnd result (λ r. r ≡ rejection) → Rejects (CertReply texts cert NoAnswer) rejection → IfErr result (Rejects (CertReply texts cert Answers))
    not_read result rejection is rejects = rejected_by result rejection (CertReply texts cert Answers) is (rejects_also _ _ rejection also rejects)

    module _ (task : LiftedTask) (game : Task) (read : Cert) (described : DescribeGround texts task game) (spelled : IsCertText game read cert) where
      -- an answer to the certificate is a reply
      pub cert_replied : {E : Type 0} (result : Result Reply E) → IfOk result (Answers task game read) → IfOk result (CertReply texts cert Answers)
      cert_replied result answers = IfOk-weaker result _ _ (λ (reply : Reply) is. CertReply.answered task game read reply described spelled is) answers

  -- files that are refused are the reason of a rejection
  pub files_refused : {T : Type 0} (result : Result T Rejection) (error : FrontError) → IsErrAnd result (λ r. r ≡ of_files error) → Refuses (IsRefusal texts) error → IfErr result (Rejects (CertReply texts cert NoAnswer))
  files_refused result error is refused =
      rejected_by result (of_files error) (CertReply texts cert NoAnswer) is (files_rejected (CertReply texts cert NoAnswer) (IsRefusal texts) (λ (fault : Fault) first. CertReply.refused fault first) error refused)

  -- a text that spells no certificate is the reason of a rejection
  pub cert_refused : {T : Type 0} (result : Result T Rejection) (task : LiftedTask) (game : Task) (error : CertError) → DescribeGround texts task game → IsErrAnd result (λ r. r ≡ of_cert error) → CertRefuses (IsCertFault game cert) error
      → IfErr result (Rejects (CertReply texts cert NoAnswer))
  cert_refused result task game error described is refused =
      rejected_by result (of_cert error) (CertReply texts cert NoAnswer) is (cert_rejected (CertReply texts cert NoAnswer) (IsCertFault game cert) (λ code byte fault. CertReply.no_cert task game code byte described fault) error refused)

-- what a text spells over an equal ground task
pub text_of_equal : (game other : Task) (cert : Cert) (text : List ℕ) → other ≡ game → IsCertText other cert text → IsCertText game cert text
text_of_equal game other cert text same is = subst (λ (task : Task). IsCertText task cert text) same is
