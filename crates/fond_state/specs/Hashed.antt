-- Equal states are hashed alike.
use Rattle.std.proofs.Common.{◌≡◌, List, Bool, true, refl, ap}
use Rattle.std.specs.Cmp.{booleans_Decides}
use Rattle.std.specs.Cmp.Lexicographic.{pointwise}
use Rattle.std.specs.Hash as fed
use Rattle.std.specs.Bool.{beq}
use Rattle.std.proofs.lemmas.Slice.Eq.{slice_eq-Decides}
use Rattle.fond_state.specs.Words.{packed}

-- the words of equal lists of truth values are the same
pub packed_respects : (a b : List Bool) → pointwise beq a b ≡ true → fed.slice fed.u64 (packed a) ≡ fed.slice fed.u64 (packed b)
packed_respects a b same = ap (λ values. fed.slice fed.u64 (packed values)) ((slice_eq-Decides booleans_Decides a b (pointwise beq a b) refl).0 same)
