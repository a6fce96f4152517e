-- Folds over what is left of a list, an element at a time.
use Rattle.std.proofs.Common.{◌≡◌, ℕ, suc, ◌+◌, ◌<◌, Bool, List, ◌∷◌, length, map, drop, get_or, add-one, sym, ap, ◌∙◌}
use Rattle.std.specs.Prelude.{◌&&◌, ◌||◌, fold}
use Rattle.std.specs.List.{list_all, list_any}
use Rattle.std.proofs.Math.Seq.{drop-cons}

-- what is left of a list is the next element and what is left after it
pub drop_next : {X : Type 0} (xs : List X) (i : ℕ) (x : X) → i < length xs → x ≡ get_or xs i x → drop i xs ≡ x ∷ drop (i + 1) xs
drop_next xs i x within is =
    let next : drop i xs ≡ get_or xs i x ∷ drop (suc i) xs = drop-cons xs i x within in
    rw (add-one i) (next ∙ ap (λ y. y ∷ drop (suc i) xs) (sym is))

-- a fold over what is left takes the next element, and then what is left after it
pub fold_next : {X Y : Type 0} (step : Y → Y → Y) (of : X → Y) (a : Y) (xs : List X) (i : ℕ) (x : X) → i < length xs → x ≡ get_or xs i x →
    fold step a (map of (drop i xs)) ≡ fold step (step a (of x)) (map of (drop (i + 1) xs))
fold_next step of a xs i x within is = ap (λ left. fold step a (map of left)) (drop_next xs i x within is)

-- all of what is left holds if the next element does, and all of what is left after it
pub all_next : {X : Type 0} (holds : X → Bool) (xs : List X) (i : ℕ) (x : X) → i < length xs → x ≡ get_or xs i x →
    list_all (λ b. b) (map holds (drop i xs)) ≡ (holds x && list_all (λ b. b) (map holds (drop (i + 1) xs)))
all_next holds xs i x within is = ap (λ left. list_all (λ b. b) (map holds left)) (drop_next xs i x within is)

-- some of what is left holds if the next element does, or some of what is left after it
pub any_next : {X : Type 0} (holds : X → Bool) (xs : List X) (i : ℕ) (x : X) → i < length xs → x ≡ get_or xs i x →
    list_any (λ b. b) (map holds (drop i xs)) ≡ (holds x || list_any (λ b. b) (map holds (drop (i + 1) xs)))
any_next holds xs i x within is = ap (λ left. list_any (λ b. b) (map holds left)) (drop_next xs i x within is)
