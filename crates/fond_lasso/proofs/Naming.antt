-- Names of numbers in the order of their first use.
use Rattle.std.proofs.Common.{inl, inr, ⊎_elim, ◌≡◌, ℕ, zero, suc, ◌+◌, ◌-◌, ◌<◌, ◌≤◌, List, [], ◌∷◌, ◌++◌, Some, length, map, get_or, slice_get, refl, sym, ap, ◌∙◌, subst, append_assoc, append-nil, arith}
use Rattle.std.specs.Prelude.{◌⊎◌, All, Contains}
use Rattle.std.proofs.Math.ListN.{set, replicate}
use Rattle.std.proofs.lemmas.Bool.{cases_lt}
use Rattle.std.proofs.lemmas.List.{get_or-replicate, get_or-set_same, get_or-set_other, get_or_past, length-append, length-replicate}
use Rattle.std.proofs.lemmas.Option.{none-some, same_Some, slice_get_within}
use Rattle.fond_text.specs.Lists.{AreDistinct}
use Rattle.fond_task.proofs.Lists.{number_of}
use Rattle.fond_policy.proofs.Counted.{no_more}
use Rattle.fond_games.specs.Findings.{Tell}
use Rattle.fond_games.specs.Renaming.{FirstUsed}
use Rattle.fond_games.proofs.Lists.{Contains-here, Contains-later}
use Rattle.fond_games.proofs.Raised.{same_or_not}
use Rattle.fond_games.proofs.Trapped.{same_default}
use Rattle.fond_games.proofs.Walking.{map_joined}
use Rattle.fond_reach.proofs.Numbering.{first_joined}
use Rattle.fond_lasso.specs.Ordered.{AreNamed, AreRenamed, IsNamed, IsNaming, entry}

-- an element of a longer list
kept : {X : Type 0} (xs ys : List X) (i : ℕ) (x : X) → slice_get xs i ≡ Some x → slice_get (xs ++ ys) i ≡ Some x
kept [] ys i x is = absurd (none-some x is)
kept (z ∷ xs) ys zero x is = is
kept (z ∷ xs) ys (suc i) x is = kept xs ys i x is

last : {X : Type 0} (xs : List X) (x : X) → slice_get (xs ++ x ∷ []) (length xs) ≡ Some x
last [] x = refl
last (z ∷ xs) x = last xs x

before_last : {X : Type 0} (xs : List X) (x y : X) (i : ℕ) → slice_get (xs ++ x ∷ []) i ≡ Some y → (slice_get xs i ≡ Some y) ⊎ ((i ≡ length xs) × (x ≡ y))
before_last [] x y zero is = inr (refl, same_Some x y is)
before_last [] x y (suc i) is = absurd (none-some y is)
before_last (z ∷ xs) x y zero is = inl is
before_last (z ∷ xs) x y (suc i) is = ⊎_elim (λ earlier. inl earlier) (λ end. inr (ap suc end.0, end.1)) (before_last xs x y i is)

-- the numbers below a bound
below : ℕ → List ℕ
below zero = []
below (suc n) = n ∷ below n

length-below : (n : ℕ) → length (below n) ≡ n
unfolding below
length-below zero = refl
length-below (suc n) = ap suc (length-below n)

has_below : (n number : ℕ) → number < n → Contains (below n) number
unfolding below
has_below zero number less = absurd (omega (arith, less))
has_below (suc n) number less = ⊎_elim
    (λ same. subst (λ (k : ℕ). Contains (n ∷ below n) k) (sym same) (Contains-here n (below n)))
    (λ differs. Contains-later number n (below n) (has_below n number (omega (arith, less, differs))))
    (same_or_not number n)

-- elements with one place each are distinct
one_place : (xs : List ℕ) (place_of : ℕ → ℕ) (first : ℕ) → ((i x : ℕ) → slice_get xs i ≡ Some x → place_of x ≡ first + i) → AreDistinct xs
one_place [] place_of first each = tt
one_place (x ∷ xs) place_of first each = (
  λ has.
      let at = number_of xs x has in
      let here = each zero x refl in
      let there = each (suc at.0) x at.1 in
      omega (arith, here, there),
  one_place xs place_of (suc first) (λ i y is. let at = each (suc i) y is in omega (arith, at)),
)

module _ (table used : List ℕ) (naming : IsNaming table used) where
  pub once : AreDistinct used
  once = one_place used (entry table) 1 (λ place number is. let at = naming.names place number is in omega (arith, at))

  within : (number : ℕ) → 0 < entry table number → number < length table
  within number some = ⊎_elim (λ less. less) (λ past. let none = get_or_past table number 0 past in absurd (omega (arith, some, none))) (cases_lt number (length table))

  used_within : (number : ℕ) → Contains used number → number < length table
  used_within number has = let at = number_of used number has in let is = naming.names at.0 number at.1 in within number (omega (arith, is))

  -- no more numbers are used than there are
  pub few : length used ≤ length table
  few =
      let small = no_more used (below (length table)) once (λ number has. has_below (length table) number (used_within number has)) in
      omega (arith, small, length-below (length table))

  pub all_within : All (λ number. number < length table) used
  all_within place other less = used_within (get_or used place other) (Contains_at used place other less)
    where
      Contains_at : (xs : List ℕ) (i d : ℕ) → i < length xs → Contains xs (get_or xs i d)
      Contains_at xs i d below_end = (i, below_end, same_default xs i (get_or xs i d) d below_end)

  -- a number with an entry has a name already
  pub named_before : (number known : ℕ) → known ≡ entry table number → 0 < known → IsNamed used number (known - 1) used
  named_before number known is some =
      let placed = naming.places (known - 1) number (omega (arith, is, some)) in
      record { placed = placed; old_or_next = inl (slice_get_within used (known - 1) number placed, refl) }

  module _ (number : ℕ) (there : number < length table) (none : entry table number ≡ 0) where
    -- any other one gets the next name
    pub named_next : IsNamed used number (length used) (used ++ number ∷ [])
    named_next = record { placed = last used number; old_or_next = inr (refl, refl) }

    pub naming_next : IsNaming (set table number (length used + 1)) (used ++ number ∷ [])
    naming_next = record {
      names = λ place other is. ⊎_elim
          (λ earlier.
          let at = naming.names place other earlier in
          get_or-set_other table number other (length used + 1) 0 (λ same. let zero_at : entry table other ≡ 0 = ap (entry table) same ∙ none in omega (arith, at, zero_at)) ∙ at)
          (λ end.
          let same : entry (set table number (length used + 1)) other ≡ length used + 1 = ap (entry (set table number (length used + 1))) (sym end.1) ∙ get_or-set_same table number (length used + 1) 0 there in
          same ∙ ap (λ n. n + 1) (sym end.0))
          (before_last used number other place is);
      places = λ place other is. ⊎_elim
          (λ same.
          let at : entry (set table number (length used + 1)) other ≡ length used + 1 = ap (entry (set table number (length used + 1))) same ∙ get_or-set_same table number (length used + 1) 0 there in
          let end : length used ≡ place = omega (arith, at, is) in
          subst (λ n. slice_get (used ++ number ∷ []) n ≡ Some other) end (last used number ∙ ap Some (sym same)))
          (λ differs. kept used (number ∷ []) place other (naming.places place other (sym (get_or-set_other table number other (length used + 1) 0 differs) ∙ is)))
          (same_or_not other number);
    }

-- before any name no entry is used
no_entry : (count number : ℕ) → entry (replicate count 0) number ≡ 0
no_entry count number = ⊎_elim
    (λ less. get_or-replicate count number 0 0 less)
    (λ past. let long = length-replicate {A = ℕ} count 0 in get_or_past (replicate count 0) number 0 (omega (arith, long, past)))
    (cases_lt number count)

pub naming_none : (count : ℕ) (table used : List ℕ) → table ≡ replicate count 0 → used ≡ [] → IsNaming table used
naming_none count table used empty none = record {
  names = λ place number is. absurd (none-some number (ap (λ (xs : List ℕ). slice_get xs place) (sym none) ∙ is));
  places = λ place number is. let zero_at : entry table number ≡ 0 = ap (λ (xs : List ℕ). entry xs number) empty ∙ no_entry count number in absurd (omega (arith, zero_at, is));
}

-- names tell the same once more numbers are used
tell_grown : (listed more names numbers : List ℕ) → Tell listed names numbers → Tell (listed ++ more) names numbers
tell_grown listed more [] [] is = refl
tell_grown listed more [] (number ∷ numbers) is = cc
tell_grown listed more (name ∷ names) [] is = cc
tell_grown listed more (name ∷ names) (number ∷ numbers) is =
    let first : slice_get listed name ≡ Some number = cc in
    let rest : map (slice_get listed) names ≡ map Some numbers = cc in
    let again = tell_grown listed more names numbers rest in
    let at = kept listed more name number first in
    cc

tell_joined : (listed one two other more : List ℕ) → Tell listed one two → Tell listed other more → Tell listed (one ++ other) (two ++ more)
tell_joined listed one two other more first second = map_joined (slice_get listed) one other ∙ ap (λ (xs : List _). xs ++ map (slice_get listed) other) first ∙ ap (λ (xs : List _). map Some two ++ xs) second ∙ sym (map_joined Some two more)

pub no_names : (old : List ℕ) → AreNamed old [] [] old
no_names old = record { more = []; grown = sym (append-nil old); told = refl; first = refl }

-- what one name adds
added : (old : List ℕ) (number name : ℕ) (new : List ℕ) → IsNamed old number name new → (more : List ℕ) × (new ≡ old ++ more)
added old number name new is = ⊎_elim (λ before. ([], before.1 ∙ sym (append-nil old))) (λ next. (number ∷ [], next.1)) is.old_or_next

first_name : (old : List ℕ) (number name : ℕ) (new : List ℕ) → IsNamed old number name new → FirstUsed (length old) (name ∷ []) (length new)
first_name old number name new is = ⊎_elim
    (λ before. inl (before.0, ap length before.1))
    (λ next. inr (next.0, ap length next.1 ∙ length-append old (number ∷ [])))
    is.old_or_next

-- one name more
pub one_more : (old numbers names mid : List ℕ) (number name : ℕ) (new : List ℕ) → AreNamed old numbers names mid → IsNamed mid number name new → AreNamed old (numbers ++ number ∷ []) (names ++ name ∷ []) new
one_more old numbers names mid number name new before is =
    let more = added mid number name new is in
    record {
      more = before.more ++ more.0;
      grown = more.1 ∙ ap (λ (xs : List ℕ). xs ++ more.0) before.grown ∙ append_assoc old before.more more.0;
      told = tell_joined new names numbers (name ∷ []) (number ∷ []) (subst (λ (xs : List ℕ). Tell xs names numbers) (sym more.1) (tell_grown mid more.0 names numbers before.told)) (ap (λ o. o ∷ []) is.placed);
      first = first_joined (length old) names (length mid) (name ∷ []) (length new) before.first (first_name mid number name new is);
    }

-- a stem and a cycle renamed
pub both_named : (count : ℕ) (table stem cycle mid used stem_names cycle_names : List ℕ) → length table ≡ count → IsNaming table used → AreNamed [] stem stem_names mid → AreNamed mid cycle cycle_names used → AreRenamed count stem cycle used stem_names cycle_names
both_named count table stem cycle mid used stem_names cycle_names long naming first second = record {
  once = once table used naming;
  below = subst (λ n. All (λ number. number < n) used) long (all_within table used naming);
  stem_told = subst (λ (xs : List ℕ). Tell xs stem_names stem) (sym second.grown) (tell_grown mid second.more stem_names stem first.told);
  cycle_told = second.told;
  first = first_joined 0 stem_names (length mid) cycle_names (length used) first.first second.first;
}
