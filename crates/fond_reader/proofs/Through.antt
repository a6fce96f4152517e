-- Lists that are read item by item: what was read so far, and what is left.
use Rattle.std.proofs.Common.{◌≡◌, ℕ, zero, suc, ◌+◌, ◌-◌, ◌<◌, ◌≤◌, ◌&&◌, Bool, true, false, List, [], ◌∷◌, ◌++◌, map, length, drop, take, get_or, refl, sym, ap, subst, ◌∙◌, arith, add-one, append_assoc, append-nil, Result, Ok, Err, IfOk}
use Rattle.std.specs.List.{AllByRecursion}
use Rattle.std.proofs.lemmas.Grind.{common_steps}
use Rattle.std.proofs.lemmas.List.{map-append}
use Rattle.fond_text.specs.Lists.{each_passes}

-- if both of two tests hold, each does
pub first_of_both : (here rest : Bool) → (here && rest) ≡ true → here ≡ true
first_of_both true rest both = refl
first_of_both false rest both = both

pub second_of_both : (here rest : Bool) → (here && rest) ≡ true → rest ≡ true
second_of_both true rest both = both
second_of_both false rest both = cc

pub both_hold : (a b : Bool) → a ≡ true → b ≡ true → (a && b) ≡ true
both_hold a b first second = ap (λ x. x && b) first ∙ second

pub true_is_false : ¬ true ≡ false
true_is_false is = cc

-- what holds of a result in the one way holds of it in the other
pub if_ok : {A : Type 0} {E : Type 0} (P Q : A → Type 0) (result : Result A E) → ((a : A) → P a → Q a) → IfOk result P → IfOk result Q
if_ok P Q (Ok a) so holds = so a holds
if_ok P Q (Err e) so holds = tt

-- the items from an index on are the one there and the rest
pub left_at : {X : Type 0} (xs : List X) (i : ℕ) (x : X) → i < length xs → x ≡ get_or xs i x → drop i xs ≡ x ∷ drop (i + 1) xs
left_at xs i x below same = rw (add-one i) (from xs i below same) where
  from : (ys : List _) (j : ℕ) → j < length ys → x ≡ get_or ys j x → drop j ys ≡ x ∷ drop (suc j) ys
  from [] j within is = absurd (omega arith)
  from (y ∷ ys) zero within is = ap (λ z. z ∷ ys) (sym is)
  from (y ∷ ys) (suc j) within is = from ys j (omega arith) is

-- a list is its first item and the rest
pub first_and_rest : {X : Type 0} (xs : List X) (x : X) → 1 ≤ length xs → x ≡ get_or xs 0 x → xs ≡ x ∷ take (length xs - 1) (drop 1 xs)
first_and_rest [] x some same = absurd (omega arith)
first_and_rest (y ∷ ys) x some same = let rest : take (length (y ∷ ys) - 1) ys ≡ ys = grind (arith, common_steps) in rw rest (ap (λ z. z ∷ ys) (sym same))

pub passes_append : {T : Type 0} (tests more : List (T → Bool)) (items others : List T) → each_passes tests items ≡ true → each_passes more others ≡ true → each_passes (tests ++ more) (items ++ others) ≡ true
passes_append [] more [] others here there = there
passes_append [] more (t ∷ ts) others here there = cc
passes_append (p ∷ ps) more [] others here there = cc
passes_append (p ∷ ps) more (t ∷ ts) others here there = both_hold _ _ (first_of_both _ _ here) (passes_append ps more ts others (second_of_both (p t) _ here) there)

module _ {X T : Type 0} (read : X → T → Bool) where
  pub maps_append : (xs more : List X) (items others : List T) → each_passes (map read xs) items ≡ true → each_passes (map read more) others ≡ true → each_passes (map read (xs ++ more)) (items ++ others) ≡ true
  maps_append xs more items others here there = rw (map-append read xs more) (passes_append (map read xs) (map read more) items others here there)

  -- these were read from the first items, and the items that are left are fit to be read
  pub record Through (fits : T → Type 0) (all left : List T) (xs : List X) : Type 0 where
    pub front : List T
    pub split : all ≡ front ++ left
    pub read_so_far : each_passes (map read xs) front ≡ true
    pub fit : AllByRecursion fits left

  module _ (fits : T → Type 0) (all : List T) where
    -- nothing was read yet
    pub at_start : (xs : List X) → xs ≡ [] → AllByRecursion fits all → Through fits all all xs
    at_start xs none fit = record { front = []; split = refl; read_so_far = ap (λ ys. each_passes (map read ys) []) none; fit = fit }

    -- the next item is fit
    pub next_fits : (i : ℕ) (t : T) (xs : List X) → i < length all → t ≡ get_or all i t → Through fits all (drop i all) xs → fits t
    next_fits i t xs below at so_far = (subst (AllByRecursion fits) (left_at all i t below at) so_far.fit).0

    -- and is read
    pub one_more : (i : ℕ) (t : T) (xs : List X) (x : X) (more : List X) → i < length all → t ≡ get_or all i t → more ≡ xs ++ x ∷ [] → Through fits all (drop i all) xs → read x t ≡ true → Through fits all (drop (i + 1) all) more
    one_more i t xs x more below at grown so_far one =
        let left = left_at all i t below at in
        record {
          front = so_far.front ++ t ∷ [];
          split = so_far.split ∙ ap (λ ts. so_far.front ++ ts) left ∙ sym (append_assoc so_far.front (t ∷ []) (drop (i + 1) all));
          read_so_far = rw grown (maps_append xs (x ∷ []) so_far.front (t ∷ []) so_far.read_so_far (both_hold _ _ one refl));
          fit = (subst (AllByRecursion fits) left so_far.fit).1;
        }

    -- all were read if none is left
    pub at_end : (left : List T) (xs : List X) → left ≡ [] → Through fits all left xs → each_passes (map read xs) all ≡ true
    at_end left xs none so_far = rw (so_far.split ∙ ap (λ ts. so_far.front ++ ts) none ∙ append-nil so_far.front) so_far.read_so_far
