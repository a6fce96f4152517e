-- What holds of each element of a list holds of the one at an index.
use Rattle.std.proofs.Common.{◌≡◌, ℕ, List, Some, slice_get, subst}
use Rattle.std.specs.Prelude.{All, Contains}
use Rattle.std.proofs.lemmas.List.Elements.{All-get_or}
use Rattle.std.proofs.lemmas.Option.{get_or_from_slice_get, slice_get_within}

module _ {X : Type 0} (xs : List X) (i : ℕ) (x : X) (is : slice_get xs i ≡ Some x) where
  pub held_at : (P : X → Type 0) → All P xs → P x
  held_at P all = subst P (get_or_from_slice_get xs i x x is) (All-get_or P xs i x (slice_get_within xs i x is) all)

  -- the list contains the element at an index
  pub contained : Contains xs x
  contained = (i, slice_get_within xs i x is, get_or_from_slice_get xs i x x is)
