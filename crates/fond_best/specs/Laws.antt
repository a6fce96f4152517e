-- The laws of certificates of a policy of least rank, and of the verdicts on them.
use Rattle.std.specs.Prelude.{◌≡◌, ℕ}
use Rattle.fond_task.specs.declared.task.Task.{Task}
use Rattle.fond_task.specs.Policies.{game, selected}
use Rattle.fond_policy.specs.declared.best.BestCert.{BestCert}
use Rattle.fond_best.specs.Certificates.{IsRightBest}
use Rattle.fond_games.specs.Ranks.{IsBest}
use Rattle.fond_best.specs.Ratings.{IsRating}
use Rattle.fond_best.specs.declared.rated.Rated.{Rated}
use Rattle.fond_best.specs.declared.rated.Rated.TheVariants.{Least}

-- the rules of a correct certificate are a solution of its rank, and no solution that is a finite map has a smaller one
abbrev pub CertificatesAreBest : Type 0
CertificatesAreBest = (task : Task) (cert : BestCert) (rank : ℕ) → IsRightBest task cert rank → IsBest (game task) (selected cert.rules) rank

-- each verdict on a correct certificate is its rank
abbrev pub RightAreRated : Type 0
RightAreRated = (task : Task) (cert : BestCert) (rank : ℕ) (rated : Rated) → IsRightBest task cert rank → IsRating task cert rated → rated ≡ Least rank
