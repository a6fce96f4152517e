-- Lists with one more element.
use Rattle.std.proofs.Common.{inl, inr, ◌≡◌, ℕ, zero, suc, ◌<◌, List, [], ◌∷◌, ◌++◌, Some, length, get_or, slice_get, refl, sym, ap, ◌∙◌, subst, arith}
use Rattle.std.specs.Prelude.{◌⊎◌, All}
use Rattle.fond_task.specs.Layers.{CubeView}
use Rattle.fond_layers.specs.Over.{AreOver, IsOver}
use Rattle.std.proofs.lemmas.Option.{none-some, same_Some, slice_get-get_or, slice_get_within, get_or_from_slice_get}

module _ {X : Type 0} where
  -- an element of a list with one more is one of the list, or the last
  pub push_cases : (xs : List X) (y : X) (i : ℕ) (z : X) → slice_get (xs ++ y ∷ []) i ≡ Some z → (slice_get xs i ≡ Some z) ⊎ ((i ≡ length xs) × (y ≡ z))
  push_cases [] y zero z is = inr (refl, same_Some y z is)
  push_cases [] y (suc i) z is = absurd (none-some z is)
  push_cases (x ∷ xs) y zero z is = inl is
  push_cases (x ∷ xs) y (suc i) z is = later (push_cases xs y i z is)
    where
      later : (slice_get xs i ≡ Some z) ⊎ ((i ≡ length xs) × (y ≡ z)) → (slice_get (x ∷ xs) (suc i) ≡ Some z) ⊎ ((suc i ≡ length (x ∷ xs)) × (y ≡ z))
      later (inl at) = inl at
      later (inr last) = inr (ap (λ n. suc n) last.0, last.1)

  -- elements keep their numbers
  pub push_keeps : (xs more : List X) (i : ℕ) (z : X) → slice_get xs i ≡ Some z → slice_get (xs ++ more) i ≡ Some z
  push_keeps [] more i z is = absurd (none-some z is)
  push_keeps (x ∷ xs) more zero z is = is
  push_keeps (x ∷ xs) more (suc i) z is = push_keeps xs more i z is

  -- the element after a list
  pub push_last : (xs : List X) (y : X) → slice_get (xs ++ y ∷ []) (length xs) ≡ Some y
  push_last [] y = refl
  push_last (x ∷ xs) y = push_last xs y

  -- a list has an element at each number below its length
  pub element_at : (xs : List X) (i : ℕ) → i < length xs → (x : X) × (slice_get xs i ≡ Some x)
  element_at [] i within = absurd (omega (arith, within))
  element_at (y ∷ ys) zero within = (y, refl)
  element_at (y ∷ ys) (suc i) within = element_at ys i (omega (arith, within))

  -- an element that was read is at its place
  pub read_at : (xs : List X) (i : ℕ) (x : X) → i < length xs → x ≡ get_or xs i x → slice_get xs i ≡ Some x
  read_at xs i x within is = slice_get-get_or xs i x within ∙ ap (λ y. Some y) (sym is)

  -- what holds of each element of a list by its number holds of all
  pub all_numbered : (P : X → Type 0) (xs : List X) → ((i : ℕ) (x : X) → slice_get xs i ≡ Some x → P x) → All P xs
  all_numbered P xs each = λ i d within.
      let one = element_at xs i within in
      subst P (sym (get_or_from_slice_get xs i one.0 d one.1)) (each i one.0 one.1)

-- what holds of one item holds of each item of the list of it
pub only_one : {X : Type 0} (P : X → Type 0) (x : X) → P x → All P (x ∷ [])
only_one P x holds = all_numbered P (x ∷ []) at
  where
    at : (number : ℕ) (y : _) → slice_get (x ∷ []) number ≡ Some y → P y
    at zero y is = subst P (same_Some x y is) holds
    at (suc number) y is = absurd (none-some y is)

-- a cube of layers over some atoms is over them
pub over_cube : (atoms : ℕ) (layers : List (List CubeView)) (number : ℕ) (layer : List CubeView) (at : ℕ) (cube : CubeView) → AreOver atoms layers → slice_get layers number ≡ Some layer → slice_get layer at ≡ Some cube → length cube ≡ atoms
over_cube atoms layers number layer at cube over has_layer has_cube =
    let Over : List CubeView → Type 0 = IsOver atoms in
    let one : Over layer = subst Over (get_or_from_slice_get layers number layer layer has_layer) (over number layer (slice_get_within layers number layer has_layer)) in
    subst (λ (c : CubeView). length c ≡ atoms) (get_or_from_slice_get layer at cube cube has_cube) (one at cube (slice_get_within layer at cube has_cube))
