-- Sets whose test of equality decides it.
use Rattle.std.proofs.Common.{◌≡◌, ℕ, zero, suc, ◌+◌, ◌<◌, List, [], ◌∷◌, ◌++◌, Bool, true, false, Option, Some, None, length, cond, get_or, slice_get, refl, sym, ap, ◌∙◌, subst, inl, inr, arith, true≢false}
use Rattle.std.specs.Prelude.{◌||◌, ◌≤◌, ⊤, Contains, MatchOption, position, nat_lt, if◌then◌else◌}
use Rattle.std.specs.Bool.{Decides, beq}
use Rattle.std.specs.List.{IsDistinct, list_any, position_from, position_or_len}
use Rattle.std.specs.Map.{keys_of}
use Rattle.std.specs.Cmp.{booleans_Decides}
use Rattle.std.specs.Cmp.Lexicographic.{pointwise, pointwise_decides}
use Rattle.std.proofs.lemmas.Bool.Decides.{nat_tests}
use Rattle.std.proofs.lemmas.List.{length-append}
use Rattle.std.proofs.lemmas.List.Elements.{All-from_recursion}
use Rattle.std.proofs.lemmas.Iterator.Adapters.{position_from-zero}
use Rattle.std.proofs.lemmas.Option.{slice_get_within, get_or_from_slice_get}
use Rattle.indexmap.proofs.CallerLemmas.{Contains-list_any}
use Rattle.indexmap.specs.IndexMap.{insert_entry}
use Rattle.indexmap.specs.IndexSet.{insert_key}
use Rattle.fond_text.specs.Lists.{AreDistinct}
use Rattle.fond_store.specs.Stores.{Adds}

-- the test of equality of two states
abbrev pub same : List Bool → List Bool → Bool
same = pointwise beq

decides : (x y : List Bool) → Decides (same x y) (x ≡ y)
decides = pointwise_decides booleans_Decides

-- states of which the test finds no two equal are distinct
pub are_distinct : (states : List (List Bool)) → IsDistinct same states → AreDistinct states
unfolding IsDistinct
are_distinct [] distinct = tt
are_distinct (state ∷ states) distinct = (
  λ has.
      let other : same state (get_or states has.0 state) ≡ false = All-from_recursion (λ y. same state y ≡ false) states distinct.0 has.0 state has.1 in
      true≢false (sym ((decides state (get_or states has.0 state)).1 (sym has.2)) ∙ other),
  are_distinct states distinct.1,
)

or_right_false : (x y : Bool) → (x || y) ≡ false → y ≡ false
or_right_false true y none = absurd (true≢false none)
or_right_false false y none = none

-- a state that the test does not find is not there
missing_at : (states : List (List Bool)) (state : List Bool) → list_any (same state) states ≡ false → (k : ℕ) → k < length states → ¬ get_or states k state ≡ state
missing_at [] state none k within is = omega (arith, within)
missing_at (first ∷ states) state none zero within is = true≢false (sym (ap (λ b. b || list_any (same state) states) ((decides state first).1 (sym is))) ∙ none)
missing_at (first ∷ states) state none (suc k) within is = missing_at states state (or_right_false _ _ none) k (omega (arith, within)) is

pub missing : (states : List (List Bool)) (state : List Bool) → list_any (same state) states ≡ false → ¬ Contains states state
missing states state none has = missing_at states state none has.0 has.1 has.2

-- the index at which the test finds a state is one at which it is
abbrev IsPlace : ℕ → List (List Bool) → List Bool → Option ℕ → Type 0
IsPlace i states state found = MatchOption found (¬ Contains states state) (λ n. (k : ℕ) × (n ≡ i + k) × (slice_get states k ≡ Some state))

not_here : (first : List Bool) (states : List (List Bool)) (state : List Bool) → same state first ≡ false → ¬ Contains states state → (k : ℕ) → k < length (first ∷ states) → ¬ get_or (first ∷ states) k state ≡ state
not_here first states state other none zero within is = true≢false (sym ((decides state first).1 (sym is)) ∙ other)
not_here first states state other none (suc k) within is = none (k, omega (arith, within), is)

later : (i : ℕ) (first : List Bool) (states : List (List Bool)) (state : List Bool) (found : Option ℕ) → same state first ≡ false → IsPlace (i + 1) states state found → IsPlace i (first ∷ states) state found
later i first states state None other none = λ has. not_here first states state other none has.0 has.1 has.2
later i first states state (Some n) other place = (suc place.0, omega (arith, place.1), place.2)

place_of : (i : ℕ) (states : List (List Bool)) (state : List Bool) → IsPlace i states state (position_from (same state) i states)
place_of i [] state = λ has. omega (arith, has.1)
place_of i (first ∷ states) state = by (same state first) refl (place_of (i + 1) states state)
  where
    by : (b : Bool) → same state first ≡ b → IsPlace (i + 1) states state (position_from (same state) (i + 1) states) →
        IsPlace i (first ∷ states) state (cond b (Some i) (position_from (same state) (i + 1) states))
    by true here rest = (0, omega arith, ap (λ s. Some s) (sym ((decides state first).0 here)))
    by false other rest = later i first states state _ other rest

place_zero : (states : List (List Bool)) (state : List Bool) (found : Option ℕ) → IsPlace 0 states state found → MatchOption found (¬ Contains states state) (λ n. slice_get states n ≡ Some state)
place_zero states state None none = none
place_zero states state (Some n) place =
    let same : n ≡ place.0 = omega (arith, place.1) in
    ap (slice_get states) same ∙ place.2

pub found : (states : List (List Bool)) (state : List Bool) → MatchOption (position (same state) states) (¬ Contains states state) (λ n. slice_get states n ≡ Some state)
found states state =
    let P : Option ℕ → Type 0 = λ found. MatchOption found (¬ Contains states state) (λ n. slice_get states n ≡ Some state) in
    subst P (sym (position_from-zero (same state) states)) (place_zero states state _ (place_of 0 states state))

-- the first place of a state that is there has it
number_found : (states : List (List Bool)) (state : List Bool) (number : ℕ) → Contains states state → number ≡ position_or_len (same state) states → slice_get states number ≡ Some state
number_found states state number has first = by (nat_lt (position_or_len (same state) states) (length states)) (found states state)
  where
    by : (b : Bool) → MatchOption (cond b (Some (position_or_len (same state) states)) None) (¬ Contains states state) (λ n. slice_get states n ≡ Some state) → slice_get states number ≡ Some state
    by true at = ap (slice_get states) first ∙ at
    by false none = absurd (none has)

-- a state that is not there has the number after the last
number_last : (states : List (List Bool)) (state : List Bool) (number : ℕ) → ¬ Contains states state → number ≡ position_or_len (same state) states → number < length (states ++ state ∷ []) → number ≡ length states
number_last states state number none first within = by (nat_lt (position_or_len (same state) states) (length states)) refl (found states state)
  where
    by : (b : Bool) → nat_lt (position_or_len (same state) states) (length states) ≡ b →
        MatchOption (cond b (Some (position_or_len (same state) states)) None) (¬ Contains states state) (λ n. slice_get states n ≡ Some state) → number ≡ length states
    by true small at = absurd (none (position_or_len (same state) states, slice_get_within states _ state at, get_or_from_slice_get states _ state state at))
    by false large at =
        let most : length states ≤ position_or_len (same state) states = grind (arith, nat_tests, large) in
        omega (arith, most, first, within, length-append states (state ∷ []))

-- the state that was added at the end has that number
last_at : (states : List (List Bool)) (state : List Bool) (number : ℕ) → number ≡ length states → slice_get (states ++ state ∷ []) number ≡ Some state
last_at [] state number is = ap (slice_get (state ∷ [])) is
last_at (first ∷ states) state number is = ap (slice_get (first ∷ states ++ state ∷ [])) is ∙ last_at states state (length states) refl

-- the keys of a map without values, after an insertion
pub keys_after : (entries : List (List Bool × ⊤)) (state : List Bool) → keys_of (insert_entry same entries state tt) ≡ insert_key same (keys_of entries) state
keys_after [] state = refl
keys_after (entry ∷ entries) state = by (same state entry.0) (list_any (same state) (keys_of entries)) refl (keys_after entries state)
  where
    by : (here there : Bool) → list_any (same state) (keys_of entries) ≡ there → keys_of (insert_entry same entries state tt) ≡ (if there then keys_of entries else keys_of entries ++ state ∷ []) →
        keys_of (if here then (entry.0, tt) ∷ entries else entry ∷ insert_entry same entries state tt)
        ≡ (if here || there then entry.0 ∷ keys_of entries else (entry.0 ∷ keys_of entries) ++ state ∷ [])
    by true there is later = refl
    by false true is later = ap (λ states. entry.0 ∷ states) later
    by false false is later = ap (λ states. entry.0 ∷ states) later

-- what an insertion does
pub adds : (old new : List (List Bool)) (state : List Bool) (number : ℕ) → new ≡ insert_key same old state → number ≡ position_or_len (same state) old → number < length new → Adds old state number new
adds old new state number keys first within = by (list_any (same state) old) refl
  where
    by : (b : Bool) → list_any (same state) old ≡ b → Adds old state number new
    by true there =
        let has : Contains old state = Contains-list_any same (λ x y. (decides x y).0) old state there in
        let kept : new ≡ old = keys ∙ ap (λ b. if b then old else old ++ state ∷ []) there in
        record {
          numbered = ap (λ states. slice_get states number) kept ∙ number_found old state number has first;
          kept_or_last = inl (has, kept);
        }
    by false absent =
        let last : new ≡ old ++ state ∷ [] = keys ∙ ap (λ b. if b then old else old ++ state ∷ []) absent in
        let none : ¬ Contains old state = missing old state absent in
        let is : number ≡ length old = number_last old state number none first (subst (λ states. number < length states) last within) in
        record {
          numbered = ap (λ states. slice_get states number) last ∙ last_at old state number is;
          kept_or_last = inr (none, is, last);
        }
