-- States by their numbers in one list, and in a list of those that are used.
use Rattle.std.proofs.Common.{◌≡◌, ◌<◌, ◌++◌, ℕ, zero, suc, List, [], ◌∷◌, Bool, Some, All, length, get_or, map, slice_get, refl, sym, ap, ◌∙◌, subst, ⊎_elim, arith}
use Rattle.std.proofs.lemmas.List.Elements.{All-head, All-tail}
use Rattle.std.proofs.lemmas.Option.{none-some, same_Some, slice_get-get_or, slice_get-map}
use Rattle.std.specs.Prelude.{Contains, option_map}
use Rattle.std.specs.List.{AllZip, flat_map}
use Rattle.fond_text.specs.Lists.{AreDistinct}
use Rattle.fond_games.proofs.Lists.{Contains-cases, Contains-none}
use Rattle.fond_games.specs.Findings.{Tell}
use Rattle.fond_task.specs.declared.task.Task.{Task}
use Rattle.fond_task.specs.Texts.{state_text}
use Rattle.fond_task.proofs.Lists.{Contains_numbered}
use Rattle.fond_lasso.specs.Listing.{numbered_text}
use Rattle.fond_lasso.proofs.Listing.{numbered_is}
use Rattle.fond_lasso.proofs.Told.{told_below}

-- the numbers with which a list begins
same_first : {X : Type 0} (x y : X) (xs ys : List X) → x ∷ xs ≡ y ∷ ys → x ≡ y
same_first x y xs ys e = cc

same_rest : {X : Type 0} (x y : X) (xs ys : List X) → x ∷ xs ≡ y ∷ ys → xs ≡ ys
same_rest x y xs ys e = cc

-- in a list without repetition, a state has one number
one_number : {X : Type 0} (xs : List X) (i j : ℕ) (x : X) → AreDistinct xs → slice_get xs i ≡ Some x → slice_get xs j ≡ Some x → i ≡ j
one_number [] i j x distinct at also = absurd (none-some x at)
one_number (y ∷ xs) zero zero x distinct at also = refl
one_number (y ∷ xs) zero (suc j) x distinct at also = absurd (distinct.0 (subst (Contains xs) (sym (same_Some y x at)) (Contains_numbered xs j x also)))
one_number (y ∷ xs) (suc i) zero x distinct at also = absurd (distinct.0 (subst (Contains xs) (sym (same_Some y x also)) (Contains_numbered xs i x at)))
one_number (y ∷ xs) (suc i) (suc j) x distinct at also = ap suc (one_number xs i j x distinct.1 at also)

module _ (states : List (List Bool)) where
  -- the state of a number
  abbrev pub state_at : ℕ → List Bool
  state_at number = get_or states number []

  there : (number : ℕ) → number < length states → slice_get states number ≡ Some (state_at number)
  there number within = slice_get-get_or states number [] within

  -- the numbers of a list, from the states of which this is one
  number_in : (used : List ℕ) (state : List Bool) → All (λ number. number < length states) used → Contains (map state_at used) state → (number : ℕ) × Contains used number × (number < length states) × (state ≡ state_at number)
  number_in [] state within has = absurd (Contains-none state has)
  number_in (n ∷ used) state within has = ⊎_elim
      (λ (is : state_at n ≡ state). (n, Contains_numbered (n ∷ used) zero n refl, All-head (λ number. number < length states) n used within, sym is))
      (λ later.
      let found = number_in used state (All-tail (λ number. number < length states) n used within) later in
      (found.0, further found.0 found.1, found.2, found.3))
      (Contains-cases state (state_at n) (map state_at used) has)
    where
      further : (number : ℕ) → Contains used number → Contains (n ∷ used) number
      further number has = let inside : has.0 < length used = has.1 in (suc has.0, omega arith, has.2)

  -- the states of distinct numbers are distinct
  pub states_distinct : (used : List ℕ) → AreDistinct states → AreDistinct used → All (λ number. number < length states) used → AreDistinct (map state_at used)
  states_distinct [] distinct once within = tt
  states_distinct (n ∷ used) distinct once within = (
    λ has.
        let found = number_in used (state_at n) (All-tail (λ number. number < length states) n used within) has in
        let other = found.0 in
        let same : n ≡ other = one_number states n other (state_at n) distinct (there n (All-head (λ number. number < length states) n used within)) (there other found.2 ∙ ap Some (sym found.3)) in
        once.0 (subst (Contains used) (sym same) found.1),
    states_distinct used distinct once.1 (All-tail (λ number. number < length states) n used within),
  )

  -- the states of numbers are among the states
  pub states_among : (used : List ℕ) → All (λ number. number < length states) used → (state : List Bool) → Contains (map state_at used) state → Contains states state
  states_among used within state has =
      let found = number_in used state within has in
      subst (Contains states) (sym found.3) (Contains_numbered states found.0 (state_at found.0) (there found.0 found.2))

  -- the text by the numbers is that of the states
  pub texts_same : (task : Task) (used : List ℕ) → All (λ number. number < length states) used → flat_map (numbered_text task states) used ≡ flat_map (state_text task) (map state_at used)
  texts_same task [] within = refl
  texts_same task (n ∷ used) within =
      ap (λ text. text ++ flat_map (numbered_text task states) used) (sym (numbered_is task states n (state_at n) (there n (All-head (λ number. number < length states) n used within))))
      ∙ ap (λ more. state_text task (state_at n) ++ more) (texts_same task used (All-tail (λ number. number < length states) n used within))

  -- new numbers tell in the states that are used what the old ones tell in all states
  same_told : (used new old : List ℕ) → All (λ number. number < length states) old → map (slice_get used) new ≡ map Some old → map (slice_get (map state_at used)) new ≡ map (slice_get states) old
  same_told used [] [] within told = refl
  same_told used [] (n ∷ old) within told = cc
  same_told used (m ∷ new) [] within told = cc
  same_told used (m ∷ new) (n ∷ old) within told =
      let first : slice_get used m ≡ Some n = same_first (slice_get used m) (Some n) (map (slice_get used) new) (map Some old) told in
      let one : slice_get (map state_at used) m ≡ slice_get states n = slice_get-map state_at used m ∙ ap (option_map state_at) first ∙ sym (there n (All-head (λ number. number < length states) n old within)) in
      ap (λ found. found ∷ map (slice_get (map state_at used)) new) one
      ∙ ap (λ more. slice_get states n ∷ more) (same_told used new old (All-tail (λ number. number < length states) n old within) (same_rest (slice_get used m) (Some n) (map (slice_get used) new) (map Some old) told))

  pub retold : (used new old : List ℕ) (walked : List (List Bool)) → Tell used new old → Tell states old walked → Tell (map state_at used) new walked
  retold used new old walked renamed told = same_told used new old (told_below states old walked told) renamed ∙ told

-- lists that are related place by place are as long
pub zip_long : {X Y : Type 0} (R : X → Y → Type 0) (xs : List X) (ys : List Y) → AllZip R xs ys → length ys ≡ length xs
zip_long R [] [] all = refl
zip_long R [] (y ∷ ys) all = absurd all
zip_long R (x ∷ xs) [] all = absurd all
zip_long R (x ∷ xs) (y ∷ ys) all = ap suc (zip_long R xs ys all.1)
