-- Numbers that tell of states.
use Rattle.std.proofs.Common.{◌≡◌, ℕ, zero, suc, ◌<◌, List, [], ◌∷◌, Some, length, map, slice_get, arith}
use Rattle.std.specs.Prelude.{All}
use Rattle.std.proofs.lemmas.Option.{slice_get_within}
use Rattle.fond_games.specs.Findings.{Tell}

-- numbers that tell of listed states are below the number of these: what `rename` requires of the numbers of a finding
pub told_below : {S : Type 0} (listed : List S) (numbers : List ℕ) (states : List S) → Tell listed numbers states → All (λ number. number < length listed) numbers
told_below listed [] states is place other less = absurd (omega (arith, less))
told_below listed (number ∷ numbers) [] is place other less = cc
told_below listed (number ∷ numbers) (state ∷ states) is zero other less = let at : slice_get listed number ≡ Some state = cc in slice_get_within listed number state at
told_below listed (number ∷ numbers) (state ∷ states) is (suc place) other less =
    let rest : map (slice_get listed) numbers ≡ map Some states = cc in
    told_below listed numbers states rest place other (omega (arith, less))
