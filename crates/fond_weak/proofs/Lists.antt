-- Items of lists by their numbers.
use Rattle.std.proofs.Common.{◌≡◌, ℕ, zero, suc, ◌+◌, ◌<◌, List, [], ◌∷◌, ◌++◌, Some, length, get_or, map, take, add-one, refl, sym, ap, ◌∙◌, arith}
use Rattle.std.specs.Prelude.{slice_get}
use Rattle.std.proofs.lemmas.Option.{none-some, same_Some, slice_get-get_or}

module _ {X : Type 0} where
  -- an item that was read is at its place
  pub read_at : (xs : List X) (i : ℕ) (x : X) → i < length xs → x ≡ get_or xs i x → slice_get xs i ≡ Some x
  read_at xs i x within is = slice_get-get_or xs i x within ∙ ap (λ y. Some y) (sym is)

  -- a list has an item of each number below its length
  pub element_at : (xs : List X) (i : ℕ) → i < length xs → (x : X) × (slice_get xs i ≡ Some x)
  element_at [] i within = absurd (omega (arith, within))
  element_at (x ∷ xs) zero within = (x, refl)
  element_at (x ∷ xs) (suc i) within = element_at xs i (omega (arith, within))

-- a function of the items of a list up to one more
map_suc : {X Y : Type 0} (f : X → Y) (xs : List X) (i : ℕ) (x : X) → slice_get xs i ≡ Some x → map f (take (suc i) xs) ≡ map f (take i xs) ++ f x ∷ []
map_suc f [] i x is = absurd (none-some x is)
map_suc f (y ∷ xs) zero x is = ap (λ z. f z ∷ []) (same_Some y x is)
map_suc f (y ∷ xs) (suc i) x is = ap (λ zs. f y ∷ zs) (map_suc f xs i x is)

pub map_more : {X Y : Type 0} (f : X → Y) (xs : List X) (i : ℕ) (x : X) → slice_get xs i ≡ Some x → map f (take (i + 1) xs) ≡ map f (take i xs) ++ f x ∷ []
map_more f xs i x is = ap (λ n. map f (take n xs)) (add-one i) ∙ map_suc f xs i x is
