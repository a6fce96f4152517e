-- States that are listed one by one.
use Rattle.std.proofs.Common.{inl, inr, ◌≡◌, ℕ, zero, suc, ◌+◌, ◌≤◌, List, [], ◌∷◌, ◌++◌, Bool, Some, drop, length, slice_get, refl, sym, ap, ◌∙◌, subst, ⊎_elim, arith}
use Rattle.std.specs.Prelude.{◌⊎◌, Contains}
use Rattle.std.proofs.lemmas.List.{append_assoc}
use Rattle.std.proofs.lemmas.List.Elements.{Contains-append_right}
use Rattle.std.proofs.lemmas.Option.{none-some, same_Some}
use Rattle.fond_task.proofs.Lists.{Contains-here, Contains-cases}
use Rattle.fond_text.specs.Lists.{AreDistinct}
use Rattle.fond_store.specs.Stores.{Adds}

module _ {X : Type 0} where
  drop_suc : (xs : List X) (n : ℕ) (x : X) → slice_get xs n ≡ Some x → drop n xs ≡ x ∷ drop (suc n) xs
  drop_suc [] n x at = absurd (none-some x at)
  drop_suc (y ∷ xs) zero x at = ap (λ z. z ∷ xs) (same_Some y x at)
  drop_suc (y ∷ xs) (suc n) x at = drop_suc xs n x at

  -- what is left of a list begins with the next element
  pub drop_step : (xs : List X) (n : ℕ) (x : X) → slice_get xs n ≡ Some x → drop n xs ≡ x ∷ drop (n + 1) xs
  drop_step xs n x at = let more : suc n ≡ n + 1 = omega arith in drop_suc xs n x at ∙ ap (λ m. x ∷ drop m xs) more

  -- nothing is left after the end
  pub drop_past : (xs : List X) (n : ℕ) → length xs ≤ n → drop n xs ≡ []
  drop_past [] zero past = refl
  drop_past [] (suc n) past = refl
  drop_past (x ∷ xs) zero past = absurd (omega (arith, past))
  drop_past (x ∷ xs) (suc n) past = drop_past xs n (omega (arith, past))

  -- in a list without repetition, an element is not among those before it
  pub new_state : (xs : List X) (y : X) (ys : List X) → AreDistinct (xs ++ y ∷ ys) → ¬ Contains xs y
  new_state [] y ys distinct has = omega (arith, has.1)
  new_state (x ∷ xs) y ys distinct has = ⊎_elim
      (λ same. distinct.0 (subst (Contains (xs ++ y ∷ ys)) (sym same) (Contains-append_right xs (y ∷ ys) y (Contains-here y ys))))
      (λ later. new_state xs y ys distinct.1 later)
      (Contains-cases y x xs has)

-- states to which a new one is added
pub added_state : (states : List (List Bool)) (state copy : List Bool) (number : ℕ) (new rest : List (List Bool)) → copy ≡ state → ¬ Contains states state → Adds states copy number new → new ++ rest ≡ states ++ state ∷ rest
added_state states state copy number new rest same missing adds = by adds.kept_or_last
  where
    by : (Contains states copy × (new ≡ states)) ⊎ ((¬ Contains states copy) × (number ≡ length states) × (new ≡ states ++ copy ∷ [])) → new ++ rest ≡ states ++ state ∷ rest
    by (inl kept) = absurd (missing (subst (λ (s : List Bool). Contains states s) same kept.0))
    by (inr last) = ap (λ (n : List (List Bool)). n ++ rest) last.2 ∙ append_assoc states (copy ∷ []) rest ∙ ap (λ (s : List Bool). states ++ s ∷ rest) same
