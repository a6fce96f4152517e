-- The first of the items that fail a test, each with its place.
use Rattle.std.proofs.Common.{◌≡◌, ℕ, ◌+◌, ◌≤◌, Bool, true, false, not, List, [], ◌++◌, Option, Some, None, length, take, slice_get, refl, sym, ap, ◌∙◌, Contains}
use Rattle.fond_text.specs.declared.first.Found.{Found}
use Rattle.fond_text.specs.declared.place.Place.{Place}
use Rattle.fond_text.specs.Firsts.{IsFirst, IsEarlier}
use Rattle.fond_text.proofs.Earliest.{first_along}
use Rattle.fond_names.proofs.Among.{Among, among_none, among_both, among_next, among_all, first_if}

pub negated : (a b : Bool) → a ≡ not b → b ≡ not a
negated a true e = sym (ap not e)
negated a false e = sym (ap not e)

fails : (b : Bool) → not b ≡ true → b ≡ false
fails true e = sym e
fails false e = refl

failed : (b : Bool) → b ≡ false → not b ≡ true
failed true e = sym e
failed false e = refl

module _ {X : Type 0} (good : X → Bool) (at : X → Place) (number : ℕ) where
  -- an item that fails the test is at the place
  abbrev pub IsMissing : List X → Place → ℕ → Type 0
  IsMissing xs place code = (x : X) × Contains xs x × (good x ≡ false) × (place ≡ at x) × (code ≡ number)

  abbrev Fails : X → Place → ℕ → Type 0
  Fails x place code = (good x ≡ false) × (place ≡ at x) × (code ≡ number)

  over : (xs : List X) (place : Place) (code : ℕ) → Among Fails xs place code → IsMissing xs place code
  over xs place code h = (h.0, h.1, h.2.0, h.2.1, h.2.2)

  back : (xs : List X) (place : Place) (code : ℕ) → IsMissing xs place code → Among Fails xs place code
  back xs place code h = (h.0, h.1, (h.2, h.3, h.4))

  -- no item fails among no items
  pub missing_none : IsFirst (IsMissing []) None
  missing_none = first_along (Among Fails []) (IsMissing []) (over []) (back []) None (among_none Fails)

  -- one item more may be the first
  pub missing_next : (xs : List X) (i : ℕ) (x : X) (bad : Bool) (one other first : Option Found) → slice_get xs i ≡ Some x → bad ≡ not (good x) → IsFirst (IsMissing (take i xs)) one →
      IsFirst (λ place code. (bad ≡ true) × (place ≡ at x) × (code ≡ number)) other → IsEarlier one other first → IsFirst (IsMissing (take (i + 1) xs)) first
  missing_next xs i x bad one other first got is p q e =
      first_along (Among Fails (take (i + 1) xs)) (IsMissing (take (i + 1) xs)) (over (take (i + 1) xs)) (back (take (i + 1) xs)) first
      (among_next Fails xs i x one other first got
      (first_along (IsMissing (take i xs)) (Among Fails (take i xs)) (back (take i xs)) (over (take i xs)) one p)
      (first_if (good x ≡ false) bad (at x) number other (λ e. fails (good x) (sym is ∙ e), λ h. is ∙ failed (good x) h) q) e)

  pub missing_all : (xs : List X) (i : ℕ) (first : Option Found) → length xs ≤ i → IsFirst (IsMissing (take i xs)) first → IsFirst (IsMissing xs) first
  missing_all xs i first end h =
      first_along (Among Fails xs) (IsMissing xs) (over xs) (back xs) first
      (among_all Fails xs i first end (first_along (IsMissing (take i xs)) (Among Fails (take i xs)) (back (take i xs)) (over (take i xs)) first h))

  -- the first of two lists is the earlier of the first of each
  pub missing_both : (xs ys : List X) (one other first : Option Found) → IsFirst (IsMissing xs) one → IsFirst (IsMissing ys) other → IsEarlier one other first → IsFirst (IsMissing (xs ++ ys)) first
  missing_both xs ys one other first p q e =
      first_along (Among Fails (xs ++ ys)) (IsMissing (xs ++ ys)) (over (xs ++ ys)) (back (xs ++ ys)) first
      (among_both Fails xs ys one other first
      (first_along (IsMissing xs) (Among Fails xs) (back xs) (over xs) one p)
      (first_along (IsMissing ys) (Among Fails ys) (back ys) (over ys) other q) e)
