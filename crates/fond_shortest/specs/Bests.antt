-- What is found of the least rank of a task.
use Rattle.std.specs.Prelude.{ℕ, ⊤}
use Rattle.fond_task.specs.declared.task.Task.{Task}
use Rattle.fond_policy.specs.Belongs.{BelongsAsBest}
use Rattle.fond_policy.specs.declared.best.BestCert.{BestCert}
use Rattle.fond_policy.specs.declared.cert.Cert.{Cert}
use Rattle.fond_policy.specs.declared.cert.Cert.TheVariants.{Refusal as RefusalCert}
use Rattle.fond_cert.specs.Smalls.{HasSmallBest}
use Rattle.fond_planner.specs.Decisions.{IsGoodCert, IsPast}
use Rattle.fond_best.specs.Certificates.{IsRightBest}
use Rattle.fond_shortest.specs.declared.best.Tried.{Tried}
use Rattle.fond_shortest.specs.declared.best.Tried.TheVariants.{Right, Wrong}
use Rattle.fond_shortest.specs.declared.answer.BestAnswer.{BestAnswer}
use Rattle.fond_shortest.specs.declared.answer.BestAnswer.TheVariants.{Least, Refusal, Undecided}

-- a certificate of least rank belongs to a task, its numbers fit their types, and it is correct with some rank
pub record IsGoodBest (task : Task) (cert : BestCert) : Type 0 where
  pub belongs : BelongsAsBest task cert
  pub small : HasSmallBest cert
  pub rank : ℕ
  pub right : IsRightBest task cert rank

-- a certificate that was tried and found right belongs to the task and is correct; nothing is said of one that was not
abbrev pub IsRightTry : Task → Tried → Type 0
IsRightTry task (Right cert) = IsGoodBest task cert
IsRightTry task (Wrong bounds) = ⊤

-- a certificate is a refusal
abbrev pub IsRefusal : Cert → Type 0
IsRefusal (RefusalCert layers) = ⊤
IsRefusal policy = ⊥

-- what is found for a budget: a correct certificate of least rank; or a correct refusal; or more states are reachable than the budget
abbrev pub IsBestAnswer : Task → ℕ → BestAnswer → Type 0
IsBestAnswer task budget (Least cert) = IsGoodBest task cert
IsBestAnswer task budget (Refusal cert) = IsGoodCert task cert × IsRefusal cert
IsBestAnswer task budget Undecided = IsPast task budget
