-- Tests of all items and of some item of a list.
use Rattle.std.proofs.Common.{◌≡◌, ℕ, zero, suc, Some, slice_get, ◌⊎◌, inl, inr, ◌&&◌, ◌||◌, Bool, true, false, List, [], ◌∷◌, refl, sym, ap, ◌∙◌, Contains, arith}
use Rattle.std.specs.List.{list_all, list_any}
use Rattle.std.proofs.lemmas.List.Elements.{Contains-append_left, Contains-append_right, Contains-append_cases, Contains-push, Contains-push_cases}

pub and_parts : (a b : Bool) → (a && b) ≡ true → (a ≡ true) × (b ≡ true)
and_parts true b e = (refl, e)
and_parts false b e = cc

pub and_both : (a b : Bool) → a ≡ true → b ≡ true → (a && b) ≡ true
and_both a b h k = ap (λ c. c && b) h ∙ k

pub or_cases : (a b : Bool) → (a || b) ≡ true → (a ≡ true) ⊎ (b ≡ true)
or_cases true b e = inl refl
or_cases false b e = inr e

pub or_left : (a b : Bool) → a ≡ true → (a || b) ≡ true
or_left a b h = ap (λ c. c || b) h

pub or_right : (a b : Bool) → b ≡ true → (a || b) ≡ true
or_right true b h = refl
or_right false b h = h

module _ {X : Type 0} where
  pub here : (x : X) (xs : List X) → Contains (x ∷ xs) x
  here x xs = Contains-append_left (x ∷ []) xs x (Contains-push [] x)

  pub there : (x : X) (xs : List X) (y : X) → Contains xs y → Contains (x ∷ xs) y
  there x xs y c = Contains-append_right (x ∷ []) xs y c

  pub here_or_there : (x : X) (xs : List X) (y : X) → Contains (x ∷ xs) y → (x ≡ y) ⊎ Contains xs y
  here_or_there x xs y c =
      elim (Contains-append_cases (x ∷ []) xs y c) [
        | inl one ↦ elim (Contains-push_cases [] x y one) [ inl none ↦ (let low = none.1 in absurd (omega (arith, low))) | inr same ↦ inl same ]
        | inr rest ↦ inr rest
      ]

  module _ (p : X → Bool) where
    pub all_hold : (xs : List X) (x : X) → list_all p xs ≡ true → Contains xs x → p x ≡ true
    all_hold [] x all c = let low = c.1 in absurd (omega (arith, low))
    all_hold (y ∷ xs) x all c =
        let both = and_parts (p y) (list_all p xs) all in
        elim (here_or_there y xs x c) [ inl same ↦ ap p (sym same) ∙ both.0 | inr rest ↦ all_hold xs x both.1 rest ]

    pub all_from : (xs : List X) → ((x : X) → Contains xs x → p x ≡ true) → list_all p xs ≡ true
    all_from [] each = refl
    all_from (y ∷ xs) each = and_both (p y) (list_all p xs) (each y (here y xs)) (all_from xs (λ x c. each x (there y xs x c)))

    pub some_holds : (xs : List X) → list_any p xs ≡ true → (x : X) × Contains xs x × (p x ≡ true)
    some_holds [] e = cc
    some_holds (y ∷ xs) e =
        elim (or_cases (p y) (list_any p xs) e) [
          | inl h ↦ (y, here y xs, h)
          | inr h ↦ let rest = some_holds xs h in (rest.0, there y xs rest.0 rest.1, rest.2)
        ]

    pub some_from : (xs : List X) (x : X) → Contains xs x → p x ≡ true → list_any p xs ≡ true
    some_from [] x c h = let low = c.1 in absurd (omega (arith, low))
    some_from (y ∷ xs) x c h =
        elim (here_or_there y xs x c) [ inl same ↦ or_left (p y) (list_any p xs) (ap p same ∙ h) | inr rest ↦ or_right (p y) (list_any p xs) (some_from xs x rest h) ]

-- a test that all items pass is passed by the item at an index
pub all_got : {X : Type 0} (p : X → Bool) (xs : List X) (i : ℕ) (x : X) → slice_get xs i ≡ Some x → list_all p xs ≡ true → p x ≡ true
all_got p [] i x got all = cc
all_got p (y ∷ xs) zero x got all = let same : y ≡ x = cc in ap p (sym same) ∙ (and_parts (p y) (list_all p xs) all).0
all_got p (y ∷ xs) (suc i) x got all = all_got p xs i x got (and_parts (p y) (list_all p xs) all).1
