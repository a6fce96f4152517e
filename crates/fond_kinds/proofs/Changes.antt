-- The first declaration of a type among those before an index.
use Rattle.std.proofs.Common.{◌≡◌, ℕ, zero, suc, ◌+◌, ◌<◌, ◌≤◌, ◌&&◌, not, Bool, true, false, List, [], ◌∷◌, Some, None, is_some, length, get_or, take, cond, refl, sym, ap, ◌∙◌, inl, inr, zero-add, arith}
use Rattle.std.specs.Prelude.{slice_get, find, position}
use Rattle.std.specs.List.{position_from}
use Rattle.std.specs.Str.{bytes_eq}
use Rattle.std.specs.Cmp.Lexicographic.{bytes_decides}
use Rattle.std.proofs.lemmas.Bool.{cases_order}
use Rattle.std.proofs.lemmas.Iterator.Adapters.{position_from-zero}
use Rattle.std.proofs.lemmas.List.Quantifiers.{position-Some}
use Rattle.std.proofs.lemmas.Option.{get_or_from_slice_get}
use Rattle.fond_ast.specs.declared.names.TypedName.{TypedName}
use Rattle.fond_kinds.proofs.Numbers.{any_at}
use Rattle.fond_kinds.proofs.Types.{some_position}
use Rattle.fond_kinds.specs.Kinds.{declares, is_passed_over, type_of}

module _ {X : Type 0} (p : X → Bool) where
  from_low : (xs : List X) (from n : ℕ) → position_from p from xs ≡ Some n → from ≤ n
  from_low [] from n is = cc
  from_low (x ∷ xs) from n is = by (p x) is (from_low xs (from + 1) n)
    where
      by : (b : Bool) → cond b (Some from) (position_from p (from + 1) xs) ≡ Some n → (position_from p (from + 1) xs ≡ Some n → from + 1 ≤ n) → from ≤ n
      by true is later = let same : from ≡ n = cc in omega arith
      by false is later = let more : from + 1 ≤ n = later is in omega arith

  found_before : (xs : List X) (i j from : ℕ) → position_from p from xs ≡ Some (from + j) → j < i → find p (take i xs) ≡ slice_get xs j
  found_before [] i j from is low = cc
  found_before (x ∷ xs) zero j from is low = absurd (omega arith)
  found_before (x ∷ xs) (suc i) zero from is low = by (p x) is
    where
      by : (b : Bool) → cond b (Some from) (position_from p (from + 1) xs) ≡ Some (from + 0) → cond b (Some x) (find p (take i xs)) ≡ Some x
      by true is = refl
      by false is = let more : from + 1 ≤ from + 0 = from_low xs (from + 1) (from + 0) is in absurd (omega arith)
  found_before (x ∷ xs) (suc i) (suc j) from is low = by (p x) is (found_before xs i j (from + 1))
    where
      by : (b : Bool) → cond b (Some from) (position_from p (from + 1) xs) ≡ Some (from + suc j) → (position_from p (from + 1) xs ≡ Some (from + 1 + j) → j < i → find p (take i xs) ≡ slice_get xs j)
          → cond b (Some x) (find p (take i xs)) ≡ slice_get xs j
      by true is later = let same : from ≡ from + suc j = cc in absurd (omega arith)
      by false is later = later (is ∙ ap (λ n. Some n) (omega arith)) (omega arith)

  none_before : (xs : List X) (i j from : ℕ) → position_from p from xs ≡ Some (from + j) → i ≤ j → find p (take i xs) ≡ None
  none_before [] i j from is low = cc
  none_before (x ∷ xs) zero j from is low = refl
  none_before (x ∷ xs) (suc i) zero from is low = absurd (omega arith)
  none_before (x ∷ xs) (suc i) (suc j) from is low = by (p x) is (none_before xs i j (from + 1))
    where
      by : (b : Bool) → cond b (Some from) (position_from p (from + 1) xs) ≡ Some (from + suc j) → (position_from p (from + 1) xs ≡ Some (from + 1 + j) → i ≤ j → find p (take i xs) ≡ None)
          → cond b (Some x) (find p (take i xs)) ≡ None
      by true is later = let same : from ≡ from + suc j = cc in absurd (omega arith)
      by false is later = later (is ∙ ap (λ n. Some n) (omega arith)) (omega arith)

  from_zero : (xs : List X) (j : ℕ) → position p xs ≡ Some j → position_from p 0 xs ≡ Some (0 + j)
  from_zero xs j is = sym (position_from-zero p xs) ∙ is ∙ ap (λ n. Some n) (sym (zero-add j))

module _ (types : List TypedName) (i : ℕ) (declared : TypedName) (is : slice_get types i ≡ Some declared) (on : is_passed_over declared ≡ false) where
  itself : declares declared.name declared ≡ true
  itself = ap (λ b. bytes_eq declared.name declared.name && not b) on ∙ and-true (bytes_eq declared.name declared.name) ∙ (bytes_decides declared.name declared.name).1 refl
    where
      and-true : (b : Bool) → (b && true) ≡ b
      and-true true = refl
      and-true false = refl

  module _ (first : ℕ) (found : position (declares declared.name) types ≡ Some first) where
    no_later : first ≤ i
    no_later = elim (cases_order first i) [
      | inl same ↦ omega arith
      | inr rest ↦ elim rest [
        | inl less ↦ omega arith
        | inr more ↦
            let off : declares declared.name (get_or types i declared) ≡ false = (position-Some (declares declared.name) types first declared found).2 i more in
            let same : get_or types i declared ≡ declared = get_or_from_slice_get types i declared declared is in
            let clash : true ≡ false = sym itself ∙ ap (declares declared.name) (sym same) ∙ off in cc
      ]
    ]

    -- an earlier declaration is the first before the index
    pub earlier_first : (first ≡ i → ⊥) → type_of (take i types) declared.name ≡ slice_get types first
    earlier_first other = elim (cases_order first i) [
      | inl same ↦ absurd (other same)
      | inr rest ↦ elim rest [
        | inl less ↦ found_before (declares declared.name) types i first 0 (from_zero (declares declared.name) types first found) less
        | inr more ↦ let low : first ≤ i = no_later in absurd (omega arith)
      ]
    ]

    -- before the first declaration there is none
    pub none_earlier : first ≡ i → type_of (take i types) declared.name ≡ None
    none_earlier same = none_before (declares declared.name) types i first 0 (from_zero (declares declared.name) types first found) (omega arith)

    pub first_there : first < length types
    first_there = (position-Some (declares declared.name) types first declared found).0

  -- a declaration that declares a type is not without a first one
  pub has_first : position (declares declared.name) types ≡ None → ⊥
  has_first none =
      let any = any_at (declares declared.name) types i declared is itself in
      let off : false ≡ true = sym (ap (λ o. is_some o) none) ∙ some_position (declares declared.name) types ∙ any in cc
