-- The first fault among those of the items of a list.
use Rattle.std.proofs.Common.{◌≡◌, ◌⊎◌, inl, inr, ℕ, ◌+◌, ◌<◌, ◌≤◌, Bool, true, List, [], ◌∷◌, ◌++◌, Option, Some, None, length, take, slice_get, refl, sym, ap, ◌∙◌, subst, Contains, append_assoc, arith}
use Rattle.std.specs.Bool.{Decides}
use Rattle.std.proofs.lemmas.List.{take_all, take_more}
use Rattle.std.proofs.lemmas.List.Elements.{Contains-append_left, Contains-append_right, Contains-append_cases, Contains-push, Contains-push_cases}
use Rattle.std.proofs.lemmas.Option.{slice_get_within, get_or_from_slice_get}
use Rattle.fond_text.specs.declared.first.Found.{Found}
use Rattle.fond_text.specs.declared.place.Place.{Place}
use Rattle.fond_text.specs.Firsts.{IsFirst, IsEarlier}
use Rattle.fond_text.specs.Lists.{Somewhere}
use Rattle.fond_text.proofs.Earliest.{first_along, first_of_both}
use Rattle.std.proofs.lemmas.Bool.{cases_lt}
use Rattle.fond_names.proofs.Cuts.{cut_pushed}

-- the items before the next index are those before an index and the one there
pub next_taken : {X : Type 0} (xs : List X) (i : ℕ) (x : X) → slice_get xs i ≡ Some x → take (i + 1) xs ≡ take i xs ++ x ∷ []
next_taken xs i x at =
    take_more xs i x (slice_get_within xs i x at) ∙ ap (λ y. take i xs ++ y ∷ []) (get_or_from_slice_get xs i x x at)

-- no fault is found where there is none
pub first_none : (P : Place → ℕ → Type 0) → ((place : Place) (code : ℕ) → ¬ P place code) → IsFirst P None
first_none P empty = record { one = tt; covers = λ place code h. empty place code h }

-- a fault that a test tells is the first of its kind
pub first_if : (Q : Type 0) (b : Bool) (at : Place) (number : ℕ) (found : Option Found) → Decides b Q →
    IsFirst (λ place code. (b ≡ true) × (place ≡ at) × (code ≡ number)) found → IsFirst (λ place code. Q × (place ≡ at) × (code ≡ number)) found
first_if Q b at number found decides h =
    first_along (λ place code. (b ≡ true) × (place ≡ at) × (code ≡ number)) (λ place code. Q × (place ≡ at) × (code ≡ number))
    (λ place code p. (decides.0 p.0, p.1, p.2)) (λ place code p. (decides.1 p.0, p.1, p.2)) found h

module _ {X : Type 0} (P : X → Place → ℕ → Type 0) where
  -- a fault of some item of a list
  abbrev pub Among : List X → Place → ℕ → Type 0
  Among xs place code = (x : X) × Contains xs x × P x place code

  pub among_none : IsFirst (Among []) None
  among_none = first_none (Among []) (λ place code h. let low = h.1.1 in absurd (omega (arith, low)))

  pub among_one : (x : X) (found : Option Found) → IsFirst (P x) found → IsFirst (Among (x ∷ [])) found
  among_one x found h =
      first_along (P x) (Among (x ∷ [])) (λ place code p. (x, Contains-push [] x, p)) back found h
    where
      back : (place : Place) (code : ℕ) → Among (x ∷ []) place code → P x place code
      back place code p =
          elim (Contains-push_cases [] x p.0 p.1) [
            | inl c ↦ let low = c.1 in absurd (omega (arith, low))
            | inr same ↦ subst (λ (y : X). P y place code) (sym same) p.2
          ]

  -- the first of two lists is the earlier of the first of each
  pub among_both : (xs ys : List X) (one other first : Option Found) → IsFirst (Among xs) one → IsFirst (Among ys) other → IsEarlier one other first → IsFirst (Among (xs ++ ys)) first
  among_both xs ys one other first p q e =
      first_along (λ place code. Among xs place code ⊎ Among ys place code) (Among (xs ++ ys)) over back first (first_of_both (Among xs) (Among ys) one other first p q e)
    where
      over : (place : Place) (code : ℕ) → Among xs place code ⊎ Among ys place code → Among (xs ++ ys) place code
      over place code (inl h) = (h.0, Contains-append_left xs ys h.0 h.1, h.2)
      over place code (inr h) = (h.0, Contains-append_right xs ys h.0 h.1, h.2)

      back : (place : Place) (code : ℕ) → Among (xs ++ ys) place code → Among xs place code ⊎ Among ys place code
      back place code h = elim (Contains-append_cases xs ys h.0 h.1) [ inl c ↦ inl (h.0, c, h.2) | inr c ↦ inr (h.0, c, h.2) ]

  -- one item more, the next one of a list
  pub among_next : (xs : List X) (i : ℕ) (x : X) (one other first : Option Found) → slice_get xs i ≡ Some x → IsFirst (Among (take i xs)) one → IsFirst (P x) other → IsEarlier one other first →
      IsFirst (Among (take (i + 1) xs)) first
  among_next xs i x one other first at p q e =
      subst (λ (some : List X). IsFirst (Among some) first) (sym (next_taken xs i x at)) (among_both (take i xs) (x ∷ []) one other first p (among_one x other q) e)

  -- all items
  pub among_all : (xs : List X) (i : ℕ) (first : Option Found) → length xs ≤ i → IsFirst (Among (take i xs)) first → IsFirst (Among xs) first
  among_all xs i first end h = subst (λ (some : List X). IsFirst (Among some) first) (take_all i xs end) h

module _ {X : Type 0} (R : List X → X → Type 0) (at : X → Place) (number : ℕ) where
  -- a fault at an item of a list, by the items before it
  abbrev pub Later : List X → Place → ℕ → Type 0
  Later xs place code = Somewhere (λ before x. R before x × (place ≡ at x)) xs × (code ≡ number)

  pub later_none : IsFirst (Later []) None
  later_none = first_none (Later []) (λ place code h. elim h.0.before as (λ before. [] ≡ before ++ h.0.item ∷ h.0.after → ⊥) [ [] ↦ λ e. cc (e) | b ∷ before ↦ λ e. cc (e) ] h.0.split)

  module _ (xs : List X) (last : X) where
    over : (place : Place) (code : ℕ) → Later xs place code ⊎ (R xs last × (place ≡ at last) × (code ≡ number)) → Later (xs ++ last ∷ []) place code
    over place code (inl h) = (
      record {
        before = h.0.before;
        item = h.0.item;
        after = h.0.after ++ last ∷ [];
        split = ap (λ all. all ++ last ∷ []) h.0.split ∙ append_assoc h.0.before (h.0.item ∷ h.0.after) (last ∷ []);
        has = h.0.has;
      },
      h.1,
    )
    over place code (inr h) = (record { before = xs; item = last; after = []; split = refl; has = (h.0, h.1) }, h.2)

    back : (place : Place) (code : ℕ) → Later (xs ++ last ∷ []) place code → Later xs place code ⊎ (R xs last × (place ≡ at last) × (code ≡ number))
    back place code h =
        elim (cut_pushed xs last h.0.before h.0.item h.0.after h.0.split) [
          | inl same ↦ inr (subst (λ (before : List X). R before last) (sym same.0) (subst (λ (x : X). R h.0.before x) (sym same.1) h.0.has.0), h.0.has.1 ∙ ap at (sym same.1), h.1)
          | inr cut ↦ inl (record { before = h.0.before; item = h.0.item; after = cut.rest; split = cut.list_is; has = h.0.has }, h.1)
        ]

    later_more : (one other first : Option Found) → IsFirst (Later xs) one → IsFirst (λ place code. R xs last × (place ≡ at last) × (code ≡ number)) other → IsEarlier one other first →
        IsFirst (Later (xs ++ last ∷ [])) first
    later_more one other first p q e =
        first_along (λ place code. Later xs place code ⊎ (R xs last × (place ≡ at last) × (code ≡ number))) (Later (xs ++ last ∷ [])) over back first
        (first_of_both (Later xs) (λ place code. R xs last × (place ≡ at last) × (code ≡ number)) one other first p q e)

  -- one item more, the next one of a list, which a test tells
  pub later_next : (xs : List X) (i : ℕ) (x : X) (b : Bool) (one other first : Option Found) → slice_get xs i ≡ Some x → Decides b (R (take i xs) x) → IsFirst (Later (take i xs)) one →
      IsFirst (λ place code. (b ≡ true) × (place ≡ at x) × (code ≡ number)) other → IsEarlier one other first → IsFirst (Later (take (i + 1) xs)) first
  later_next xs i x b one other first got decides p q e =
      subst (λ (some : List X). IsFirst (Later some) first) (sym (next_taken xs i x got)) (later_more (take i xs) x one other first p (first_if (R (take i xs) x) b (at x) number other decides q) e)

  pub later_all : (xs : List X) (i : ℕ) (first : Option Found) → length xs ≤ i → IsFirst (Later (take i xs)) first → IsFirst (Later xs) first
  later_all xs i first end h = subst (λ (some : List X). IsFirst (Later some) first) (take_all i xs end) h

module _ (Q : ℕ → Place → ℕ → Type 0) where
  -- a fault at some index below this one
  abbrev pub Below : ℕ → Place → ℕ → Type 0
  Below count place code = (at : ℕ) × (at < count) × Q at place code

  pub below_none : IsFirst (Below 0) None
  below_none = first_none (Below 0) (λ place code h. let low = h.1 in absurd (omega (arith, low)))

  pub below_next : (i : ℕ) (one other first : Option Found) → IsFirst (Below i) one → IsFirst (Q i) other → IsEarlier one other first → IsFirst (Below (i + 1)) first
  below_next i one other first p q e =
      first_along (λ place code. Below i place code ⊎ Q i place code) (Below (i + 1)) over back first (first_of_both (Below i) (Q i) one other first p q e)
    where
      over : (place : Place) (code : ℕ) → Below i place code ⊎ Q i place code → Below (i + 1) place code
      over place code (inl h) = let low = h.1 in (h.0, omega (arith, low), h.2)
      over place code (inr h) = (i, omega arith, h)

      cases : (place : Place) (code at : ℕ) → (at < i) ⊎ (at ≡ i) → Q at place code → Below i place code ⊎ Q i place code
      cases place code at (inl low) h = inl (at, low, h)
      cases place code at (inr same) h = inr (subst (λ (n : ℕ). Q n place code) same h)

      back : (place : Place) (code : ℕ) → Below (i + 1) place code → Below i place code ⊎ Q i place code
      back place code h = cases place code h.0 (last h.0 h.1) h.2
        where
          last : (at : ℕ) → at < i + 1 → (at < i) ⊎ (at ≡ i)
          last at low = elim (cases_lt at i) [ inl lt ↦ inl lt | inr le ↦ inr (omega (arith, low, le)) ]
