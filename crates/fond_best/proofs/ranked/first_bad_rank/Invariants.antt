use Rattle.std.proofs.Common.{◌≡◌, ℕ, Some}
use Rattle.std.specs.Prelude.{slice_get}
use Rattle.fond_policy.proofs.Beginning.{Before}
use Rattle.fond_best.specs.Certificates.{IsRankedWay}
use Rattle.fond_best.proofs.ranked.first_bad_rank.Given as goal

-- the items so far have their ranks
abbrev pub invariant-loop-at : goal.invariant-loop-at
invariant-loop-at l = Before l.cert.items (λ n item. (rank : ℕ) → slice_get l.cert.ranks n ≡ Some rank → IsRankedWay l.t l.cert.rules l.cert.items l.cert.ranks rank item.way) l.at
