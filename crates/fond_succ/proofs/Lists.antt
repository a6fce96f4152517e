-- Images of lists, and items at one place of two lists.
use Rattle.std.proofs.Common.{◌≡◌, ℕ, zero, suc, inl, inr, List, [], ◌∷◌, Some, map, refl, sym, ap, subst}
use Rattle.std.specs.Prelude.{Contains, slice_get}
use Rattle.std.specs.List.{AllZip}
use Rattle.std.proofs.lemmas.Option.{none-some, same_Some}
use Rattle.fond_text.specs.Lists.{AreDistinct}
use Rattle.fond_ast.proofs.Members.{Member, Member-from_Contains, Contains-from_Member, Member-from_map}

pub Contains-from_map : {X Y : Type 0} (f : X → Y) (xs : List X) (y : Y) → Contains (map f xs) y → (x : X) × Contains xs x × (y ≡ f x)
Contains-from_map f xs y has =
    let one = Member-from_map f xs y (Member-from_Contains (map f xs) y has) in
    (one.0, Contains-from_Member xs one.0 one.1, one.2)

-- the images of distinct items are distinct if no two of the items have one image
distinct-map : {X Y : Type 0} (f : X → Y) (xs : List X) → ((x y : X) → Member xs x → Member xs y → f x ≡ f y → x ≡ y) → AreDistinct xs → AreDistinct (map f xs)
distinct-map f [] one distinct = tt
distinct-map f (x ∷ xs) one distinct = (
  λ has.
      let from = Member-from_map f xs (f x) (Member-from_Contains (map f xs) (f x) has) in
      let same = one x from.0 (inl refl) (inr from.1) from.2 in
      distinct.0 (Contains-from_Member xs x (subst (Member xs) (sym same) from.1)),
  distinct-map f xs (λ y z in_xs also. one y z (inr in_xs) (inr also)) distinct.1,
)

pub AreDistinct-map : {X Y : Type 0} (f : X → Y) (xs : List X) → ((x y : X) → Contains xs x → Contains xs y → f x ≡ f y → x ≡ y) → AreDistinct xs → AreDistinct (map f xs)
AreDistinct-map f xs one distinct = distinct-map f xs (λ x y in_xs also. one x y (Contains-from_Member xs x in_xs) (Contains-from_Member xs y also)) distinct

pub Member-at : {X : Type 0} (xs : List X) (i : ℕ) (x : X) → slice_get xs i ≡ Some x → Member xs x
Member-at [] i x is = absurd (none-some x is)
Member-at (y ∷ xs) zero x is = inl (sym (same_Some y x is))
Member-at (y ∷ xs) (suc i) x is = inr (Member-at xs i x is)

pub at-Member : {X : Type 0} (xs : List X) (x : X) → Member xs x → (i : ℕ) × (slice_get xs i ≡ Some x)
at-Member [] x h = absurd h
at-Member (y ∷ xs) x (inl e) = (zero, ap Some (sym e))
at-Member (y ∷ xs) x (inr h) = let later = at-Member xs x h in (suc later.0, later.1)

-- items at one place of two lists that agree place by place
pub zip-left : {X Y : Type 0} (R : X → Y → Type 0) (xs : List X) (ys : List Y) → AllZip R xs ys → (i : ℕ) (x : X) → slice_get xs i ≡ Some x → (y : Y) × (slice_get ys i ≡ Some y) × R x y
zip-left R [] ys all i x is = absurd (none-some x is)
zip-left R (x ∷ xs) [] all i z is = absurd all
zip-left R (x ∷ xs) (y ∷ ys) all zero z is = (y, refl, subst (λ w. R w y) (same_Some x z is) all.0)
zip-left R (x ∷ xs) (y ∷ ys) all (suc i) z is = zip-left R xs ys all.1 i z is

pub zip-right : {X Y : Type 0} (R : X → Y → Type 0) (xs : List X) (ys : List Y) → AllZip R xs ys → (i : ℕ) (y : Y) → slice_get ys i ≡ Some y → (x : X) × (slice_get xs i ≡ Some x) × R x y
zip-right R [] [] all i y is = absurd (none-some y is)
zip-right R [] (y ∷ ys) all i z is = absurd all
zip-right R (x ∷ xs) [] all i y is = absurd (none-some y is)
zip-right R (x ∷ xs) (y ∷ ys) all zero z is = (x, refl, subst (R x) (same_Some y z is) all.0)
zip-right R (x ∷ xs) (y ∷ ys) all (suc i) z is = zip-right R xs ys all.1 i z is
