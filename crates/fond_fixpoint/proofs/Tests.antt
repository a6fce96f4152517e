-- Tests of the items of a list that follow from other tests, item by item.
use Rattle.std.proofs.Common.{◌≡◌, ℕ, ◌+◌, ◌<◌, List, [], ◌∷◌, Bool, true, false, cond, length, get_or, set, refl, ap, ◌∙◌, arith, ⊎_elim}
use Rattle.std.specs.Prelude.{◌&&◌, ◌||◌, count_by}
use Rattle.std.specs.List.{list_all, list_any}
use Rattle.std.proofs.lemmas.Bool.{and_parts, and_from, or_cases, or_left, or_right, false≢true}
use Rattle.std.proofs.lemmas.List.Sums.{sum_by-set}

module _ {X : Type 0} (p q : X → Bool) where
  pub all_then : ((x : X) → p x ≡ true → q x ≡ true) → (xs : List X) → list_all p xs ≡ true → list_all q xs ≡ true
  all_then each [] all = refl
  all_then each (x ∷ xs) all = let both = and_parts _ _ all in and_from _ _ (each x both.0) (all_then each xs both.1)

  pub any_then : ((x : X) → p x ≡ true → q x ≡ true) → (xs : List X) → list_any p xs ≡ true → list_any q xs ≡ true
  any_then each [] any = absurd (false≢true any)
  any_then each (x ∷ xs) any = ⊎_elim (λ here. or_left _ _ (each x here)) (λ later. or_right _ _ (any_then each xs later)) (or_cases _ _ any)

  pub all_same : ((x : X) → p x ≡ q x) → (xs : List X) → list_all p xs ≡ list_all q xs
  all_same each [] = refl
  all_same each (x ∷ xs) = ap (λ b. b && list_all p xs) (each x) ∙ ap (λ b. q x && b) (all_same each xs)

  pub any_same : ((x : X) → p x ≡ q x) → (xs : List X) → list_any p xs ≡ list_any q xs
  any_same each [] = refl
  any_same each (x ∷ xs) = ap (λ b. b || list_any p xs) (each x) ∙ ap (λ b. q x || b) (any_same each xs)

-- if an item is replaced by one on which the test answers the same, as many pass
pub count_same : {X : Type 0} (p : X → Bool) (xs : List X) (i : ℕ) (y d : X) → i < length xs → p (get_or xs i d) ≡ p y → count_by p (set xs i y) ≡ count_by p xs
count_same p xs i y d within same = omega (arith, sum_by-set (λ x. cond (p x) 1 0) xs i y d within, ap (λ b. cond {A = ℕ} b 1 0) same)

-- if an item that passes is replaced by one that does not, one less passes
pub count_less : {X : Type 0} (p : X → Bool) (xs : List X) (i : ℕ) (y d : X) → i < length xs → p (get_or xs i d) ≡ true → p y ≡ false → count_by p (set xs i y) + 1 ≡ count_by p xs
count_less p xs i y d within was is = omega (arith, sum_by-set (λ x. cond (p x) 1 0) xs i y d within, ap (λ b. cond {A = ℕ} b 1 0) was, ap (λ b. cond {A = ℕ} b 1 0) is)
