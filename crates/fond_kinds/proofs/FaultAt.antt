-- The faults of declared types are those of their declarations, index by index.
use Rattle.std.proofs.Common.{◌≡◌, ◌⊎◌, ℕ, ◌+◌, ◌<◌, ◌≤◌, List, [], ◌∷◌, ◌++◌, Option, Some, None, length, take, drop, refl, sym, ap, ◌∙◌, subst, inl, inr, arith}
use Rattle.std.specs.Prelude.{slice_get, position, option_and_then, Contains}
use Rattle.std.proofs.Math.Seq.{take-append_seam}
use Rattle.std.proofs.lemmas.Bool.{cases_order}
use Rattle.std.proofs.lemmas.List.{take-append-drop}
use Rattle.std.proofs.lemmas.Option.{slice_get_within, get_or_from_slice_get, slice_get-get_or}
use Rattle.fond_text.specs.Firsts.{IsFirst, IsEarlier}
use Rattle.fond_text.specs.declared.first.Found.{Found}
use Rattle.fond_text.specs.declared.place.Place.{Place}
use Rattle.fond_text.proofs.Earliest.{first_along, first_of_both}
use Rattle.fond_ast.specs.declared.names.TypedName.{TypedName}
use Rattle.fond_kinds.specs.Kinds.{declares, type_of}
use Rattle.fond_kinds.specs.Faults.{StandsInKinds}
use Rattle.fond_kinds.specs.Tables.{IsFaultAt}
use Rattle.fond_kinds.proofs.Numbers.{find_at, drop_at}

-- a list is cut at an index, and is cut at the index of an item
cut : {X : Type 0} (xs : List X) (i : ℕ) (x : X) → slice_get xs i ≡ Some x → xs ≡ take i xs ++ x ∷ drop (i + 1) xs
cut xs i x is = sym (take-append-drop i xs) ∙ ap (λ rest. take i xs ++ rest) (drop_at xs i x is)

at_cut : {X : Type 0} (before : List X) (x : X) (after : List X) → slice_get (before ++ x ∷ after) (length before) ≡ Some x
at_cut [] x after = refl
at_cut (y ∷ before) x after = at_cut before x after

contained : {X : Type 0} (xs : List X) (i : ℕ) (x : X) → slice_get xs i ≡ Some x → Contains xs x
contained xs i x is = (i, slice_get_within xs i x is, get_or_from_slice_get xs i x x is)

index_of : {X : Type 0} (xs : List X) (x : X) → Contains xs x → (i : ℕ) × (slice_get xs i ≡ Some x)
index_of xs x (i, within, is) = (i, slice_get-get_or xs i x within ∙ ap (λ y. Some y) is)

module _ (types : List TypedName) where
  -- the first declaration of a type at its index
  first_at : (name : List ℕ) (declared : TypedName) → type_of types name ≡ Some declared → (i : ℕ) × (position (declares name) types ≡ Some i) × (slice_get types i ≡ Some declared)
  first_at name declared is = by (position (declares name) types) refl
    where
      by : (o : Option ℕ) → position (declares name) types ≡ o → (i : ℕ) × (position (declares name) types ≡ Some i) × (slice_get types i ≡ Some declared)
      by None none = let clash : None ≡ Some declared = sym (ap (λ o. option_and_then (λ k. slice_get types k) o) none) ∙ find_at (declares name) types ∙ is in cc
      by (Some i) found = (i, found, sym (ap (λ o. option_and_then (λ k. slice_get types k) o) found) ∙ find_at (declares name) types ∙ is)

  -- a fault of a declaration is a fault of the types
  pub fault_is : (i : ℕ) (place : Place) (code : ℕ) → IsFaultAt types i place code → StandsInKinds types place code
  fault_is i place code (declared, is, at, inl (inl (first, other, own), coded)) =
      inl (declared, inl (sym (find_at (declares declared.name) types) ∙ ap (λ o. option_and_then (λ k. slice_get types k) o) first ∙ is, other, own), at, coded)
  fault_is i place code (declared, is, at, inl (inr (top, other), coded)) = inl (declared, inr (contained types i declared is, top, other), at, coded)
  fault_is i place code (declared, is, at, inr ((on, change), coded)) =
      inr (record { before = take i types; item = declared; after = drop (i + 1) types; split = cut types i declared is; has = (on, change, at) }, coded)

  -- a fault of the types is one of a declaration
  pub is_fault : (place : Place) (code : ℕ) → StandsInKinds types place code → (i : ℕ) × (i < length types) × IsFaultAt types i place code
  is_fault place code (inl (declared, inl (first, other, own), at, coded)) =
      let (i, found, is) = first_at declared.name declared first in
      (i, slice_get_within types i declared is, (declared, is, at, inl (inl (found, other, own), coded)))
  is_fault place code (inl (declared, inr (has, top, other), at, coded)) =
      let (i, is) = index_of types declared has in
      (i, slice_get_within types i declared is, (declared, is, at, inl (inr (top, other), coded)))
  is_fault place code (inr (some, coded)) =
      let is : slice_get types (length some.before) ≡ Some some.item = ap (λ all. slice_get all (length some.before)) some.split ∙ at_cut some.before some.item some.after in
      let (on, (first, found, other), at) = some.has in
      let before : take (length some.before) types ≡ some.before = ap (λ all. take (length some.before) all) some.split ∙ take-append_seam some.before (some.item ∷ some.after) in
      (length some.before, slice_get_within types (length some.before) some.item is, (some.item, is, at, inr ((on, (first, ap (λ all. type_of all some.item.name) before ∙ found, other)), coded)))

  -- the faults of the declarations before an index
  abbrev pub Before : ℕ → Place → ℕ → Type 0
  Before i place code = (k : ℕ) × (k < i) × IsFaultAt types k place code

  -- one more declaration
  pub first_more : (i : ℕ) (one other first : Option Found) → IsFirst (Before i) one → IsFirst (IsFaultAt types i) other → IsEarlier one other first → IsFirst (Before (i + 1)) first
  first_more i one other first before here earlier =
      first_along (λ place code. Before i place code ⊎ IsFaultAt types i place code) (Before (i + 1)) over back first (first_of_both (Before i) (IsFaultAt types i) one other first before here earlier)
    where
      over : (place : Place) (code : ℕ) → Before i place code ⊎ IsFaultAt types i place code → Before (i + 1) place code
      over place code (inl (k, low, fault)) = (k, omega arith, fault)
      over place code (inr fault) = (i, omega arith, fault)

      back : (place : Place) (code : ℕ) → Before (i + 1) place code → Before i place code ⊎ IsFaultAt types i place code
      back place code (k, low, fault) = elim (cases_order k i) [
        | inl same ↦ inr (subst (λ z. IsFaultAt types z place code) same fault)
        | inr rest ↦ elim rest [ inl less ↦ inl (k, less, fault) | inr more ↦ absurd (omega arith) ]
      ]

  -- before any declaration there is none
  pub first_none : IsFirst (Before 0) None
  first_none = record { one = tt; covers = λ place code fault. none fault }
    where
      none : {place : Place} {code : ℕ} → Before 0 place code → ⊥
      none (k, low, fault) = absurd (omega arith)

  -- after the last declaration it is the first of all
  pub first_all : (i : ℕ) (first : Option Found) → length types ≤ i → IsFirst (Before i) first → IsFirst (StandsInKinds types) first
  first_all i first end before = first_along (Before i) (StandsInKinds types) (λ place code found. over place code found) (λ place code fault. back place code (is_fault place code fault)) first before
    where
      over : (place : Place) (code : ℕ) → Before i place code → StandsInKinds types place code
      over place code (k, low, fault) = fault_is k place code fault

      back : (place : Place) (code : ℕ) → (k : ℕ) × (k < length types) × IsFaultAt types k place code → Before i place code
      back place code (k, low, fault) = (k, omega arith, fault)
