-- Members of lists, by cases.
use Rattle.std.proofs.Common.{◌≡◌, zero, suc, ◌⊎◌, inl, inr, List, [], ◌∷◌, ◌++◌, map, sym, ap, subst, arith}
use Rattle.std.specs.Prelude.{Contains}
use Rattle.std.specs.List.{flat_map}

abbrev pub Member : {X : Type 0} → List X → X → Type 0
Member [] x = ⊥
Member (y ∷ ys) x = (x ≡ y) ⊎ Member ys x

pub Member-from_Contains : {X : Type 0} (xs : List X) (x : X) → Contains xs x → Member xs x
Member-from_Contains [] x h = absurd (omega (arith, h.1))
Member-from_Contains (y ∷ ys) x (zero, lt, e) = inl (sym e)
Member-from_Contains (y ∷ ys) x (suc k, lt, e) = inr (Member-from_Contains ys x (k, omega arith, e))

pub Contains-from_Member : {X : Type 0} (xs : List X) (x : X) → Member xs x → Contains xs x
Contains-from_Member [] x h = absurd h
Contains-from_Member (y ∷ ys) x (inl e) = (0, omega arith, sym e)
Contains-from_Member (y ∷ ys) x (inr h) = let inner = Contains-from_Member ys x h in (suc inner.0, omega (arith, inner.1), inner.2)

pub Member-left : {X : Type 0} (xs ys : List X) (x : X) → Member xs x → Member (xs ++ ys) x
Member-left [] ys x h = absurd h
Member-left (y ∷ xs) ys x (inl e) = inl e
Member-left (y ∷ xs) ys x (inr h) = inr (Member-left xs ys x h)

pub Member-right : {X : Type 0} (xs ys : List X) (x : X) → Member ys x → Member (xs ++ ys) x
Member-right [] ys x h = h
Member-right (y ∷ xs) ys x h = inr (Member-right xs ys x h)

pub Member-cases : {X : Type 0} (xs ys : List X) (x : X) → Member (xs ++ ys) x → Member xs x ⊎ Member ys x
Member-cases [] ys x h = inr h
Member-cases (y ∷ xs) ys x (inl e) = inl (inl e)
Member-cases (y ∷ xs) ys x (inr h) = elim (Member-cases xs ys x h) [ inl m ↦ inl (inr m) | inr m ↦ inr m ]

pub Member-map : {X Y : Type 0} (f : X → Y) (xs : List X) (x : X) → Member xs x → Member (map f xs) (f x)
Member-map f [] x h = absurd h
Member-map f (y ∷ xs) x (inl e) = inl (ap f e)
Member-map f (y ∷ xs) x (inr h) = inr (Member-map f xs x h)

pub Member-from_map : {X Y : Type 0} (f : X → Y) (xs : List X) (y : Y) → Member (map f xs) y → (x : X) × Member xs x × (y ≡ f x)
Member-from_map f [] y h = absurd h
Member-from_map f (x ∷ xs) y (inl e) = (x, inl (λ i. x), e)
Member-from_map f (x ∷ xs) y (inr h) = let inner = Member-from_map f xs y h in (inner.0, inr inner.1, inner.2)

pub Member-flat_map : {X Y : Type 0} (f : X → List Y) (xs : List X) (x : X) (y : Y) → Member xs x → Member (f x) y → Member (flat_map f xs) y
Member-flat_map f [] x y h m = absurd h
Member-flat_map f (z ∷ xs) x y (inl e) m = Member-left (f z) (flat_map f xs) y (subst (λ w. Member (f w) y) e m)
Member-flat_map f (z ∷ xs) x y (inr h) m = Member-right (f z) (flat_map f xs) y (Member-flat_map f xs x y h m)

pub Member-from_flat_map : {X Y : Type 0} (f : X → List Y) (xs : List X) (y : Y) → Member (flat_map f xs) y → (x : X) × Member xs x × Member (f x) y
Member-from_flat_map f [] y h = absurd h
Member-from_flat_map f (x ∷ xs) y h =
    elim (Member-cases (f x) (flat_map f xs) y h) [ inl m ↦ (x, inl (λ i. x), m) | inr m ↦ (let inner = Member-from_flat_map f xs y m in (inner.0, inr inner.1, inner.2)) ]
