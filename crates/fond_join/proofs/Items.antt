-- The items of a list that are left after some.
use Rattle.std.proofs.Common.{◌≡◌, ℕ, ◌+◌, ◌-◌, ◌<◌, ◌≤◌, List, [], ◌∷◌, ◌++◌, Some, take, drop, length, get_or, slice_get, refl, sym, ap, ◌∙◌, arith}
use Rattle.std.proofs.lemmas.Grind.{common_steps}
use Rattle.std.proofs.lemmas.List.{at_drop_more}
use Rattle.std.proofs.lemmas.Option.{slice_get_read}

-- the items from one on are that one and those after it
pub drop_item : {X : Type 0} (xs : List X) (i : ℕ) (x : X) → i < length xs → x ≡ get_or xs i x → drop i xs ≡ x ∷ drop (i + 1) xs
drop_item xs i x within is =
    at_drop_more (λ rest. rest) xs i x within ∙ ap (λ y. y ∷ drop (i + 1) xs) (sym is)

-- an item is found at its index
pub found_item : {X : Type 0} (xs : List X) (i : ℕ) (x : X) → i < length xs → x ≡ get_or xs i x → slice_get xs i ≡ Some x
found_item xs i x within is = slice_get_read xs (length xs) i x refl within is

all_taken : {X : Type 0} (xs : List X) → take (length xs) xs ≡ xs
all_taken xs = grind (arith, common_steps)

-- a list that is not empty is its first item and those after it
pub first_item : {X : Type 0} (xs : List X) (x : X) → 1 ≤ length xs → x ≡ get_or xs 0 x → xs ≡ x ∷ take (length xs - 1) (drop 1 xs)
first_item [] x some is = absurd (omega arith)
first_item (y ∷ ys) x some is =
    let count : length (y ∷ ys) - 1 ≡ length ys = omega arith in
    ap (λ z. z ∷ ys) (sym is) ∙ ap (λ rest. x ∷ rest) (sym (ap (λ n. take n ys) count ∙ all_taken ys))

-- the rest of a list is shorter by one
pub rest_length : {X : Type 0} (xs : List X) → 1 ≤ length xs → length (take (length xs - 1) (drop 1 xs)) + 1 ≡ length xs
rest_length xs some = grind (arith, common_steps)

-- without its last item, a list with one more item is the list
pub popped : {X : Type 0} (xs ys after : List X) (x : X) (count : ℕ) → ys ≡ xs ++ x ∷ [] → count ≡ length ys → after ≡ take (count - 1) ys → after ≡ xs
popped xs ys after x count grown long is =
    let all : take (length xs) (xs ++ x ∷ []) ≡ xs = grind (arith, common_steps) in
    let less : count - 1 ≡ length xs = let longer : length ys ≡ length (xs ++ x ∷ []) = ap length grown in grind (arith, common_steps) in
    is ∙ ap (λ n. take n ys) less ∙ ap (take (length xs)) grown ∙ all
