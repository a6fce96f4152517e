-- Numbers of the states of a list.
use Rattle.std.proofs.Common.{inl, inr, ◌≡◌, ℕ, zero, suc, List, [], ◌∷◌, Bool, true, false, Some, length, slice_get, refl, sym, ap, subst, arith}
use Rattle.std.specs.Prelude.{◌⊎◌, Contains}
use Rattle.std.specs.List.{AllZip}
use Rattle.std.proofs.lemmas.Option.{none-some, same_Some}
use Rattle.fond_text.specs.Lists.{AreDistinct}
use Rattle.fond_task.proofs.Lists.{Contains_numbered}

module _ {X : Type 0} where
  -- a state of a list without repetition has one number
  pub one_number : (xs : List X) → AreDistinct xs → (i j : ℕ) (x : X) → slice_get xs i ≡ Some x → slice_get xs j ≡ Some x → i ≡ j
  one_number [] distinct i j x is also = absurd (none-some x is)
  one_number (y ∷ ys) distinct zero zero x is also = refl
  one_number (y ∷ ys) distinct zero (suc j) x is also = absurd (distinct.0 (subst (λ z. Contains ys z) (sym (same_Some y x is)) (Contains_numbered ys j x also)))
  one_number (y ∷ ys) distinct (suc i) zero x is also = absurd (distinct.0 (subst (λ z. Contains ys z) (sym (same_Some y x also)) (Contains_numbered ys i x is)))
  one_number (y ∷ ys) distinct (suc i) (suc j) x is also = ap suc (one_number ys distinct.1 i j x is also)

  module _ (same : (x y : X) → (x ≡ y) ⊎ (¬ (x ≡ y))) where
    number_after : {P : Type 0} → P ⊎ (¬ P) → ℕ → ℕ
    number_after (inl is) rest = zero
    number_after (inr differs) rest = suc rest

    -- the first number of a state in a list
    pub number_in : List X → X → ℕ
    number_in [] x = zero
    number_in (y ∷ ys) x = number_after (same y x) (number_in ys x)

    first_number : (xs : List X) (i : ℕ) (x : X) → slice_get xs i ≡ Some x → slice_get xs (number_in xs x) ≡ Some x
    unfolding number_in number_after
    first_number [] i x is = absurd (none-some x is)
    first_number (y ∷ ys) i x is = go (same y x) i is (λ j also. first_number ys j x also)
      where
        go : (which : (y ≡ x) ⊎ (¬ (y ≡ x))) (i : ℕ) → slice_get (y ∷ ys) i ≡ Some x → ((j : ℕ) → slice_get ys j ≡ Some x → slice_get ys (number_in ys x) ≡ Some x) → slice_get (y ∷ ys) (number_after which (number_in ys x)) ≡ Some x
        go (inl here) i is again = ap (λ z. Some z) here
        go (inr differs) zero is again = absurd (differs (same_Some y x is))
        go (inr differs) (suc i) is again = again i is

    -- in a list without repetition it is the only one
    pub numbered : (xs : List X) → AreDistinct xs → (i : ℕ) (x : X) → slice_get xs i ≡ Some x → number_in xs x ≡ i
    numbered xs distinct i x is = one_number xs distinct (number_in xs x) i x (first_number xs i x is) is

-- lists of one length that are related at each place
pub zip_from : {A B : Type 0} (R : A → B → Type 0) (xs : List A) (ys : List B) → length xs ≡ length ys → ((i : ℕ) (x : A) (y : B) → slice_get xs i ≡ Some x → slice_get ys i ≡ Some y → R x y) → AllZip R xs ys
zip_from R [] [] long each = tt
zip_from R [] (y ∷ ys) long each = absurd (omega (arith, long))
zip_from R (x ∷ xs) [] long each = absurd (omega (arith, long))
zip_from R (x ∷ xs) (y ∷ ys) long each = (each zero x y refl refl, zip_from R xs ys (omega (arith, long)) (λ i a b is also. each (suc i) a b is also))

-- two truth values, and two states, are the same or not
same_truth : (a b : Bool) → (a ≡ b) ⊎ (¬ (a ≡ b))
same_truth true true = inl refl
same_truth true false = inr (λ is. cc)
same_truth false true = inr (λ is. cc)
same_truth false false = inl refl

pub same_state : (a b : List Bool) → (a ≡ b) ⊎ (¬ (a ≡ b))
same_state [] [] = inl refl
same_state [] (y ∷ ys) = inr (λ is. cc)
same_state (x ∷ xs) [] = inr (λ is. cc)
same_state (x ∷ xs) (y ∷ ys) = go (same_truth x y) (same_state xs ys)
  where
    go : (x ≡ y) ⊎ (¬ (x ≡ y)) → (xs ≡ ys) ⊎ (¬ (xs ≡ ys)) → (x ∷ xs ≡ y ∷ ys) ⊎ (¬ (x ∷ xs ≡ y ∷ ys))
    go (inl first) (inl rest) = inl cc
    go (inr first) rest = inr (λ is. first cc)
    go (inl first) (inr rest) = inr (λ is. rest cc)
