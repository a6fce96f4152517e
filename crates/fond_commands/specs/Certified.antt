-- Certificates of the task that three texts describe, what a correct one claims of it, and the replies of commands that read one.
use Rattle.std.specs.Prelude.{◌≡◌, ℕ, List, []}
use Rattle.fond_text.specs.declared.fault.Fault.{Fault}
use Rattle.fond_ast.specs.declared.task.LiftedTask.{LiftedTask}
use Rattle.fond_ast.specs.Solutions.{IsSolution, IsSolvable}
use Rattle.fond_task.specs.declared.task.Task.{Task}
use Rattle.fond_task.specs.declared.rule.Rule.{Rule}
use Rattle.fond_policy.specs.Belongs.{Belongs}
use Rattle.fond_policy.specs.Sizes.{HasSmallNumbers}
use Rattle.fond_cert.specs.Faults.{IsCertFault}
use Rattle.fond_cert.specs.Spellings.{spelling}
use Rattle.fond_policy.specs.declared.cert.Cert.{Cert}
use Rattle.fond_policy.specs.declared.cert.Cert.TheVariants.{Policy, Refusal, Covered}
use Rattle.fond_ground.specs.Grounds.{IsGroundOf}
use Rattle.fond_succ.specs.Solutions.{rules_policy}
use Rattle.fond_front.specs.Texts.{Texts}
use Rattle.fond_commands.specs.Tasks.{Describe, IsRefusal}
use Rattle.fond_commands.specs.Replies.{Reply, cert_reply, fault_reply}

-- three texts describe a task, and this is its ground task, over whose numbered atoms and actions certificates are written
abbrev pub DescribeGround : Texts → LiftedTask → Task → Type 0
DescribeGround texts task game = Describe texts task × IsGroundOf task game

-- a text is that of a certificate of a ground task, whose numbers fit their types
abbrev pub IsCertText : Task → Cert → List ℕ → Type 0
IsCertText game cert text = Belongs game cert × HasSmallNumbers cert × (text ≡ spelling game cert)

-- the rules of a certificate; a refusal has none
abbrev pub rules_of : Cert → List Rule
rules_of (Policy layers pairs rules reach) = rules
rules_of (Refusal layers) = []
rules_of (Covered layers pairs rules items start) = rules

-- what a certificate claims of a task with this ground task: that its rules are a solution, or that no finite map from states
-- to actions is one
abbrev pub Claim : LiftedTask → Task → Cert → Type 0
Claim task game (Policy layers pairs rules reach) = IsSolution task (rules_policy task game rules)
Claim task game (Refusal layers) = ¬ IsSolvable task
Claim task game (Covered layers pairs rules items start) = IsSolution task (rules_policy task game rules)

-- the reply of a command that works on a task: a refusal of its files, or an answer in the task that they describe
pub data TaskReply (texts : Texts) (Answers : LiftedTask → Task → Reply → Type 0) : Reply → Type 0 where
  refused : (fault : Fault) → IsRefusal texts fault → TaskReply texts Answers (fault_reply fault)
  answered : (task : LiftedTask) (game : Task) (reply : Reply) → DescribeGround texts task game → Answers task game reply → TaskReply texts Answers reply

-- the reply of a command that works on a certificate: a refusal of its files; a rejection of the certificate's text with its first
-- fault, if it spells no certificate of the ground task of the task that the files describe; or the answer to the certificate
pub data CertReply (texts : Texts) (cert : List ℕ) (Answers : LiftedTask → Task → Cert → Reply → Type 0) : Reply → Type 0 where
  refused : (fault : Fault) → IsRefusal texts fault → CertReply texts cert Answers (fault_reply fault)
  no_cert : (task : LiftedTask) (game : Task) (code byte : ℕ) → DescribeGround texts task game → IsCertFault game cert code byte → CertReply texts cert Answers (cert_reply code byte)
  answered : (task : LiftedTask) (game : Task) (read : Cert) (reply : Reply) → DescribeGround texts task game → IsCertText game read cert → Answers task game read reply → CertReply texts cert Answers reply

-- no answer: for replies that only refuse or reject
abbrev pub NoAnswer : LiftedTask → Task → Cert → Reply → Type 0
NoAnswer task game read reply = ⊥
