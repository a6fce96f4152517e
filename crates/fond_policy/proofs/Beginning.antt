-- What holds of the first elements of a list, by their numbers.
use Rattle.std.proofs.Common.{◌≡◌, ℕ, zero, suc, ◌+◌, ◌<◌, ◌≤◌, List, ◌∷◌, [], ◌++◌, Some, length, take, get_or, slice_get, refl, sym, ap, ◌∙◌, subst, ⊎_elim, arith}
use Rattle.std.specs.Prelude.{Contains}
use Rattle.std.proofs.lemmas.Bool.{cases_lt}
use Rattle.std.proofs.lemmas.Grind.{common_steps}
use Rattle.std.proofs.lemmas.List.{get_or-take}
use Rattle.std.proofs.lemmas.Option.{none-some, slice_get-get_or, slice_get_within, same_Some}
use Rattle.fond_task.proofs.Lists.{number_of}

module _ {X : Type 0} (xs : List X) (P : ℕ → X → Type 0) where
  -- this holds of the elements before a number, each with its number
  abbrev pub Before : ℕ → Type 0
  Before i = (n : ℕ) (x : X) → n < i → slice_get xs n ≡ Some x → P n x

  pub before_more : (i : ℕ) (y : X) → slice_get xs i ≡ Some y → P i y → Before i → Before (i + 1)
  before_more i y at here before = λ n x small is. ⊎_elim
      (λ lt. before n x lt is)
      (λ ge.
      let same : i ≡ n = omega (arith, small, ge) in
      let item : y ≡ x = same_Some y x (sym at ∙ ap (slice_get xs) same ∙ is) in
      subst (λ (m : ℕ). P m x) same (subst (λ (z : X). P i z) item here))
      (cases_lt n i)

  pub before_all : (i : ℕ) → length xs ≤ i → Before i → (n : ℕ) (x : X) → slice_get xs n ≡ Some x → P n x
  before_all i end before n x is =
      let within : n < length xs = slice_get_within xs n x is in
      before n x (omega (arith, within, end)) is

module _ {X : Type 0} (xs : List X) (P : X → Type 0) where
  -- each of the first elements is one before the number
  pub among_first : (i : ℕ) → Before xs (λ n x. P x) i → (x : X) → Contains (take i xs) x → P x
  among_first i before x has =
      let small : has.0 < i = grind (arith, common_steps, has.1) in
      let within : has.0 < length xs = grind (arith, common_steps, has.1) in
      let same : get_or xs has.0 x ≡ x = sym (get_or-take i xs has.0 x small) ∙ has.2 in
      before has.0 x small (slice_get-get_or xs has.0 x within ∙ ap (λ y. Some y) same)

  pub among_all : (i : ℕ) → length xs ≤ i → Before xs (λ n x. P x) i → (x : X) → Contains xs x → P x
  among_all i end before x has =
      let at = number_of xs x has in
      before_all xs (λ n y. P y) i end before at.0 x at.1

take_suc : {X : Type 0} (xs : List X) (i : ℕ) (x : X) → slice_get xs i ≡ Some x → take (suc i) xs ≡ take i xs ++ x ∷ []
take_suc [] i x is = absurd (none-some x is)
take_suc (y ∷ ys) zero x is = ap (λ z. z ∷ []) (same_Some y x is)
take_suc (y ∷ ys) (suc i) x is = ap (λ zs. y ∷ zs) (take_suc ys i x is)

-- the first elements and the next one are the first, one more
pub take_next : {X : Type 0} (xs : List X) (i : ℕ) (x : X) → slice_get xs i ≡ Some x → take (i + 1) xs ≡ take i xs ++ x ∷ []
take_next xs i x is = (let more : i + 1 ≡ suc i = omega arith in ap (λ n. take n xs) more) ∙ take_suc xs i x is

-- a list has an element at each number below its length
pub element_at : {X : Type 0} (xs : List X) (i : ℕ) → i < length xs → (x : X) × (slice_get xs i ≡ Some x)
element_at [] i within = absurd (omega (arith, within))
element_at (y ∷ ys) zero within = (y, refl)
element_at (y ∷ ys) (suc i) within = element_at ys i (omega (arith, within))

pub take_all : {X : Type 0} (xs : List X) (i : ℕ) → length xs ≤ i → take i xs ≡ xs
take_all [] zero end = refl
take_all [] (suc i) end = refl
take_all (x ∷ xs) zero end = absurd (omega (arith, end))
take_all (x ∷ xs) (suc i) end = ap (λ zs. x ∷ zs) (take_all xs i (omega (arith, end)))
