-- The first element that passes a test, in a list and another one after it.
use Rattle.std.proofs.Common.{◌≡◌, ℕ, ◌+◌, ◌<◌, ◌≤◌, List, [], ◌∷◌, ◌++◌, Bool, true, false, not, Some, None, length, cond, drop, take, eqb, get_or, refl, sym, ap, ◌∙◌, length-append, arith}
use Rattle.std.specs.Prelude.{nat_lt, position}
use Rattle.std.specs.List.{position_or_len}
use Rattle.std.proofs.lemmas.Bool.{eq-eqb, le-ltb, lt-ltb, ltb-false, ltb-true, ne_eqb}
use Rattle.std.proofs.lemmas.List.{take-append-drop}
use Rattle.std.proofs.lemmas.List.Folds.{prefix_len-append}
use Rattle.std.proofs.lemmas.List.Sums.{position_or_len_is, prefix_len-le-length}
use Rattle.std.proofs.lemmas.Option.{none-some, same_Some}

-- a place within a list, or none
some_parts : (place count n : ℕ) → cond (nat_lt place count) (Some place) None ≡ Some n → (place < count) × (place ≡ n)
some_parts place count n found = by (nat_lt place count) refl found
  where
    by : (b : Bool) → nat_lt place count ≡ b → cond b (Some place) None ≡ Some n → (place < count) × (place ≡ n)
    by true lt is = (ltb-true place count lt, same_Some place n is)
    by false ge is = absurd (none-some n is)

none_part : (place count : ℕ) → cond (nat_lt place count) (Some place) None ≡ None → count ≤ place
none_part place count found = by (nat_lt place count) refl found
  where
    by : (b : Bool) → nat_lt place count ≡ b → cond b (Some place) None ≡ None → count ≤ place
    by true lt is = absurd (none-some place (sym is))
    by false ge is = ltb-false place count ge

some_from : (place count n : ℕ) → place ≡ n → n < count → cond (nat_lt place count) (Some place) None ≡ Some n
some_from place count n is small = ap (λ b. cond b (Some place) None) (lt-ltb place count (omega (arith, is, small))) ∙ ap (λ k. Some k) is

none_from : (place count : ℕ) → count ≤ place → cond (nat_lt place count) (Some place) None ≡ None
none_from place count large = ap (λ b. cond b (Some place) None) (le-ltb place count large)

module _ {X : Type 0} (test : X → Bool) (xs ys : List X) where
  place_front : position_or_len test xs < length xs → position_or_len test (xs ++ ys) ≡ position_or_len test xs
  place_front small =
      let other : eqb (position_or_len test xs) (length xs) ≡ false = ne_eqb _ _ (λ is. omega (arith, is, small)) in
      prefix_len-append (λ x. not (test x)) xs ys ∙ ap (λ b. cond b (length xs + position_or_len test ys) (position_or_len test xs)) other

  place_back : length xs ≤ position_or_len test xs → position_or_len test (xs ++ ys) ≡ length xs + position_or_len test ys
  place_back large =
      let same : eqb (position_or_len test xs) (length xs) ≡ true = eq-eqb _ _ (omega (arith, large, prefix_len-le-length (λ x. not (test x)) xs)) in
      prefix_len-append (λ x. not (test x)) xs ys ∙ ap (λ b. cond b (length xs + position_or_len test ys) (position_or_len test xs)) same

  pub found_front : (n : ℕ) → position test xs ≡ Some n → position test (xs ++ ys) ≡ Some n
  found_front n found =
      let parts = some_parts (position_or_len test xs) (length xs) n found in
      some_from (position_or_len test (xs ++ ys)) (length (xs ++ ys)) n (place_front parts.0 ∙ parts.1) (omega (arith, parts.0, parts.1, length-append xs ys))

  pub found_back : (n : ℕ) → position test xs ≡ None → position test ys ≡ Some n → position test (xs ++ ys) ≡ Some (length xs + n)
  found_back n none found =
      let parts = some_parts (position_or_len test ys) (length ys) n found in
      some_from (position_or_len test (xs ++ ys)) (length (xs ++ ys)) (length xs + n) (place_back (none_part _ _ none) ∙ ap (λ k. length xs + k) parts.1) (omega (arith, parts.0, parts.1, length-append xs ys))

  pub found_none : position test xs ≡ None → position test ys ≡ None → position test (xs ++ ys) ≡ None
  found_none none none_back = none_from (position_or_len test (xs ++ ys)) (length (xs ++ ys))
      (let place = place_back (none_part _ _ none) in omega (arith, place, none_part (position_or_len test ys) (length ys) none_back, length-append xs ys))

-- the two parts of a list that was split
pub parts_joined : {X : Type 0} (n : ℕ) (front back read whole : List X) → front ≡ take n read → back ≡ drop n read → read ≡ whole → front ++ back ≡ whole
parts_joined n front back read whole is_front is_back same = ap (λ f. f ++ back) is_front ∙ ap (λ b. take n read ++ b) is_back ∙ take-append-drop n read ∙ same

-- the first element that passes a test, or none, as a loop finds it
module _ {X : Type 0} (test : X → Bool) (xs : List X) (i : ℕ) (before : (k : ℕ) (d : X) → k < i → test (get_or xs k d) ≡ false) where
  pub found_at : (x : X) → i < length xs → x ≡ get_or xs i x → test x ≡ true → position test xs ≡ Some i
  found_at x small is passes =
      some_from (position_or_len test xs) (length xs) i (position_or_len_is test xs i x (omega arith) (λ k below. before k x below) (λ _. ap test (sym is) ∙ passes)) small

  pub found_nowhere : length xs ≤ i → position test xs ≡ None
  found_nowhere end = by xs refl
    where
      by : (ys : List X) → xs ≡ ys → position test xs ≡ None
      by [] is = ap (position test) is
      by (y ∷ ys) is = none_from (position_or_len test xs) (length xs)
          (let all = position_or_len_is test xs (length xs) y (omega arith) (λ k below. before k y (omega (arith, below, end))) (λ small. absurd (omega arith)) in omega (arith, all))
