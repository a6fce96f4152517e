-- The elements of a list that got one more at its end.
use Rattle.std.proofs.Common.{◌≡◌, ℕ, zero, suc, ◌+◌, List, [], ◌∷◌, ◌++◌, Some, length, refl, ⊎_elim, inl, inr, arith}
use Rattle.std.specs.Prelude.{◌⊎◌, slice_get}
use Rattle.std.proofs.lemmas.Option.{none-some, same_Some}

module _ {X : Type 0} where
  -- an element of a longer list was there, or is the last
  pub old_or_last : (xs : List X) (x : X) (at : ℕ) (y : X) → slice_get (xs ++ x ∷ []) at ≡ Some y → (slice_get xs at ≡ Some y) ⊎ ((at ≡ length xs) × (x ≡ y))
  old_or_last [] x zero y is = inr (refl, same_Some x y is)
  old_or_last [] x (suc at) y is = absurd (none-some y is)
  old_or_last (z ∷ xs) x zero y is = inl is
  old_or_last (z ∷ xs) x (suc at) y is = ⊎_elim
      (λ was. inl was)
      (λ last. let more : suc at ≡ length (z ∷ xs) = omega (arith, last.0) in inr (more, last.1))
      (old_or_last xs x at y is)

  pub one_longer : (xs : List X) (x : X) → length (xs ++ x ∷ []) ≡ length xs + 1
  one_longer [] x = refl
  one_longer (z ∷ xs) x = let more = one_longer xs x in omega (arith, more)
