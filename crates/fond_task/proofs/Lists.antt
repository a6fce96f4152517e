-- Elements of lists by their numbers, and the first one that passes a test.
use Rattle.std.proofs.Common.{inl, inr, ⊎_elim, ◌≡◌, ℕ, zero, suc, ◌<◌, ◌≤◌, List, [], ◌∷◌, Bool, true, false, Option, Some, None, length, map, get_or, refl, sym, ap, ◌∙◌, arith}
use Rattle.std.specs.Prelude.{◌⊎◌, find, slice_get, Contains, IsSome}
use Rattle.std.proofs.lemmas.Bool.{cond-true, cond-false, cases_Bool, false≢true}
use Rattle.std.proofs.lemmas.List.{length-map, get_or-map}
use Rattle.std.proofs.lemmas.Option.{none-some, same_Some, slice_get-get_or, slice_get_within, get_or_from_slice_get}

module _ {X : Type 0} where
  pub Contains_numbered : (xs : List X) (i : ℕ) (x : X) → slice_get xs i ≡ Some x → Contains xs x
  Contains_numbered xs i x is = (i, slice_get_within xs i x is, get_or_from_slice_get xs i x x is)

  pub number_of : (xs : List X) (x : X) → Contains xs x → (i : ℕ) × (slice_get xs i ≡ Some x)
  number_of xs x has = (has.0, slice_get-get_or xs has.0 x has.1 ∙ ap Some has.2)

  pub same_numbered : (xs : List X) (i : ℕ) (x y : X) → slice_get xs i ≡ Some x → slice_get xs i ≡ Some y → x ≡ y
  same_numbered xs i x y is also = same_Some x y (sym is ∙ also)

  -- the first that passes has a number
  pub record Found (test : X → Bool) (xs : List X) (bound : ℕ) : Type 0 where
    pub number : ℕ
    pub item : X
    pub early : number ≤ bound
    pub numbered : slice_get xs number ≡ Some item
    pub passes : test item ≡ true
    pub first : find test xs ≡ Some item

  found_more : (test : X → Bool) (y : X) (xs : List X) (bound : ℕ) → test y ≡ false → Found test xs bound → Found test (y ∷ xs) (suc bound)
  found_more test y xs bound fails found =
      record { number = suc found.number; item = found.item; early = omega (arith, found.early); numbered = found.numbered; passes = found.passes; first = cond-false _ _ _ fails ∙ found.first }

  found_here : (test : X → Bool) (y : X) (xs : List X) (bound : ℕ) → test y ≡ true → Found test (y ∷ xs) bound
  found_here test y xs bound here = record { number = zero; item = y; early = omega arith; numbered = refl; passes = here; first = cond-true _ _ _ here }

  -- if an element passes, the first one that passes has no larger number
  pub found_by : (test : X → Bool) (xs : List X) (i : ℕ) (x : X) → slice_get xs i ≡ Some x → test x ≡ true → Found test xs i
  found_by test [] i x is here = absurd (none-some x is)
  found_by test (y ∷ xs) zero x is here = found_here test y xs zero (ap test (same_Some y x is) ∙ here)
  found_by test (y ∷ xs) (suc i) x is here = ⊎_elim
      (λ passes. found_here test y xs (suc i) passes)
      (λ fails. found_more test y xs i fails (found_by test xs i x is here))
      (cases_Bool (test y))

  -- what is found has a number and passes
  pub found_at : (test : X → Bool) (xs : List X) (x : X) → find test xs ≡ Some x → (i : ℕ) × (slice_get xs i ≡ Some x) × (test x ≡ true)
  found_at test [] x is = absurd (none-some x is)
  found_at test (y ∷ xs) x is = ⊎_elim
      (λ passes. let same : y ≡ x = same_Some y x (sym (cond-true _ _ _ passes) ∙ is) in (zero, ap Some same, ap test (sym same) ∙ passes))
      (λ fails. let rest = found_at test xs x (sym (cond-false _ _ _ fails) ∙ is) in (suc rest.0, rest.1, rest.2))
      (cases_Bool (test y))

  pub Contains-here : (x : X) (xs : List X) → Contains (x ∷ xs) x
  Contains-here x xs = (zero, omega arith, refl)

  pub Contains-later : (x y : X) (xs : List X) → Contains xs x → Contains (y ∷ xs) x
  Contains-later x y xs has = let within : has.0 < length xs = has.1 in (suc has.0, omega arith, has.2)

  pub Contains-cases : (x y : X) (xs : List X) → Contains (y ∷ xs) x → (y ≡ x) ⊎ Contains xs x
  Contains-cases x y xs has = go has.0 has.1 has.2
    where
      go : (k : ℕ) → k < length (y ∷ xs) → get_or (y ∷ xs) k x ≡ x → (y ≡ x) ⊎ Contains xs x
      go zero within is = inl is
      go (suc k) within is = inr (k, omega arith, is)

pub Contains-map : {X Y : Type 0} (f : X → Y) (xs : List X) (x : X) → Contains xs x → Contains (map f xs) (f x)
Contains-map f xs x has =
    let within : has.0 < length xs = has.1 in
    (has.0, omega (arith, length-map xs f), get_or-map f xs has.0 x (f x) within ∙ ap f has.2)

-- an option that has something
pub something : {X : Type 0} (o : Option X) → IsSome o → (x : X) × (o ≡ Some x)
something None has = absurd (false≢true has)
something (Some x) has = (x, refl)
