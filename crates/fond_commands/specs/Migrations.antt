-- What `migrate` replies to the texts of its files.
use Rattle.std.specs.Prelude.{ℕ, ◌<◌, ◌^◌, List}
use Rattle.fond_task.specs.declared.task.Task.{Task}
use Rattle.fond_check.specs.Verdicts.{IsVerdict}
use Rattle.fond_check.specs.declared.verdict.Verdict.{Verdict}
use Rattle.fond_policy.specs.declared.item.Item.{Item}
use Rattle.fond_policy.specs.Items.{firsts_of, AreLeanItems}
use Rattle.fond_policy.specs.declared.cert.Cert.{Cert}
use Rattle.fond_policy.specs.declared.cert.Cert.TheVariants.{Policy, Covered}
use Rattle.fond_policy.specs.Parts.{IsRight, IsRightCover}
use Rattle.fond_front.specs.Texts.{Texts}
use Rattle.fond_commands.specs.Certified.{CertReply, IsCertText}
use Rattle.fond_commands.specs.Checks.{IsFault, verdict_reply}
use Rattle.fond_commands.specs.Replies.{Reply}
use Rattle.fond_commands.specs.declared.status.Ending.TheVariants.{Done}

-- a certificate is given a cover: it is a policy whose reach number is below 2^32
abbrev pub IsToCover : Cert → Type 0
IsToCover (Policy layers pairs rules reach) = reach < 2 ^ 32
IsToCover cert = ⊥

-- a text is that of a correct policy with the layers, pairs and rules of this one, and with a cover whose items are lean
abbrev pub IsCoverText : Task → Cert → List ℕ → Type 0
IsCoverText game (Policy layers pairs rules reach) text =
    (items : List Item) × (start : ℕ) × IsCertText game (Covered layers pairs rules items start) text × IsRightCover game layers pairs rules items start × AreLeanItems game (firsts_of rules) items
IsCoverText game cert text = ⊥

-- what `migrate` answers to a certificate of a ground task, which has this text: it is rejected with its fault; or it is correct and
-- is given a cover; or it is correct, is none that is given a cover, and is written as it stands
pub data AnswersMigrate (text : List ℕ) (game : Task) (read : Cert) : Reply → Type 0 where
  rejected : (verdict : Verdict) → IsVerdict game read verdict → IsFault verdict → AnswersMigrate text game read (verdict_reply game read verdict)
  covered : (written : List ℕ) → IsRight game read → IsToCover read → IsCoverText game read written → AnswersMigrate text game read (record { text = written; ending = Done })
  kept : IsRight game read → ¬ IsToCover read → AnswersMigrate text game read (record { text = text; ending = Done })

-- what `migrate` replies: a refusal of its files, a rejection of the certificate's text, or the answer to the certificate
abbrev pub MigrateReply : Texts → List ℕ → Reply → Type 0
MigrateReply texts cert = CertReply texts cert (λ task. AnswersMigrate cert)
