-- The law of verdicts.
use Rattle.std.specs.Prelude.{◌≡◌, Bool}
use Rattle.fond_task.specs.declared.task.Task.{Task}
use Rattle.fond_policy.specs.declared.cert.Cert.{Cert}
use Rattle.fond_policy.specs.Parts.{IsRight}
use Rattle.fond_check.specs.Verdicts.{IsVerdict}
use Rattle.fond_check.specs.declared.verdict.Verdict.{Verdict}
use Rattle.fond_check.specs.declared.verdict.Verdict.TheVariants.{Accepted}

-- each verdict on a correct certificate is that it is accepted
abbrev pub RightAreAccepted : Type 0
RightAreAccepted = (task : Task) (cert : Cert) (verdict : Verdict) → IsRight task cert → IsVerdict task cert verdict → (lean : Bool) × (verdict ≡ Accepted lean)
