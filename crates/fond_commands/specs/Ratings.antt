-- What `rate` replies to the texts of its files.
use Rattle.std.specs.Prelude.{◌≡◌, ℕ, List, ⊤}
use Rattle.fond_games.specs.Ranks.{IsBest}
use Rattle.fond_ast.specs.declared.task.LiftedTask.{LiftedTask}
use Rattle.fond_ast.specs.Solutions.{game}
use Rattle.fond_task.specs.declared.task.Task.{Task}
use Rattle.fond_policy.specs.Belongs.{BelongsAsBest}
use Rattle.fond_policy.specs.declared.best.BestCert.{BestCert}
use Rattle.fond_cert.specs.Faults.{IsBestFault}
use Rattle.fond_cert.specs.Smalls.{HasSmallBest}
use Rattle.fond_cert.specs.Spellings.{best_spelling}
use Rattle.fond_best.specs.Ratings.{IsRating}
use Rattle.fond_best.specs.Texts.{rated_text}
use Rattle.fond_best.specs.declared.rated.Rated.{Rated}
use Rattle.fond_best.specs.declared.rated.Rated.TheVariants.{Least}
use Rattle.fond_succ.specs.Solutions.{rules_policy}
use Rattle.fond_front.specs.Texts.{Texts}
use Rattle.fond_commands.specs.Certified.{TaskReply}
use Rattle.fond_commands.specs.Replies.{Reply, cert_reply}
use Rattle.fond_commands.specs.declared.status.Ending.{Ending}
use Rattle.fond_commands.specs.declared.status.Ending.TheVariants.{Done, Rejected}

-- a text spells a certificate of least rank that belongs to a ground task, and whose numbers fit their types
abbrev pub IsBestText : Task → BestCert → List ℕ → Type 0
IsBestText ground cert text = BelongsAsBest ground cert × HasSmallBest cert × (text ≡ best_spelling ground cert)

-- a verdict is a fault
abbrev pub IsRatedFault : Rated → Type 0
IsRatedFault (Least rank) = ⊥
IsRatedFault rated = ⊤

-- the ending after a verdict
abbrev pub rated_ending : Rated → Ending
rated_ending (Least rank) = Done
rated_ending rated = Rejected

-- the reply to a verdict
abbrev pub rated_reply : Task → Rated → Reply
rated_reply ground rated = record { text = rated_text ground rated; ending = rated_ending rated }

-- what `rate` answers to a text, in a task with this ground task: if it spells no certificate, its first fault; if it spells a correct one,
-- the least rank, and then the rules are a solution of this rank, and no solution that is a finite map has a smaller one; otherwise the
-- first fault of the certificate that it spells
pub data AnswersRate (text : List ℕ) (task : LiftedTask) (ground : Task) : Reply → Type 0 where
  no_cert : (code byte : ℕ) → IsBestFault ground text code byte → AnswersRate text task ground (cert_reply code byte)
  least : (read : BestCert) (rank : ℕ) → IsBestText ground read text → IsRating ground read (Least rank) → IsBest (game task) (rules_policy task ground read.rules) rank → AnswersRate text task ground (rated_reply ground (Least rank))
  rejected : (read : BestCert) (rated : Rated) → IsBestText ground read text → IsRating ground read rated → IsRatedFault rated → AnswersRate text task ground (rated_reply ground rated)

-- what `rate` replies: a refusal of the task's files, or the answer to the text of the certificate in the task that they describe
abbrev pub RateReply : Texts → List ℕ → Reply → Type 0
RateReply texts cert = TaskReply texts (AnswersRate cert)
