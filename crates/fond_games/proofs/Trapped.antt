-- A trap of a policy that acts everywhere has a lasso: a tour of the edges that it keeps.
use Rattle.std.proofs.Common.{inl, inr, ⊎_elim, ◌≡◌, ℕ, zero, suc, ◌<◌, ◌≤◌, List, [], ◌∷◌, ◌++◌, Some, length, map, get_or, refl, sym, ap, ◌∙◌, subst, arith}
use Rattle.std.specs.Prelude.{◌⊎◌, Contains}
use Rattle.std.proofs.lemmas.Bool.{cases_lt}
use Rattle.std.proofs.lemmas.List.{length-map}
use Rattle.std.proofs.lemmas.Option.{same_Some}
use Rattle.fond_state.specs.Games.{Game, Policy, StaysIn, IsTrap}
use Rattle.fond_games.specs.Walks.{Walk, stay, leave, Follows}
use Rattle.fond_games.specs.Lassos.{Step, Lasso, ActsEverywhere, AlwaysLeads}
use Rattle.fond_games.specs.Finite.{IsFinite}
use Rattle.fond_games.proofs.Lists.{Contains-none, Contains-here, Contains-later, Contains-cases}
use Rattle.fond_games.proofs.Walking.{passes, walk_to, walk_map, follows_map, step_of}
use Rattle.fond_games.proofs.Tours.{Edge, tour_from}
use Rattle.fond_games.proofs.Ranked.{known}

pub same_default : {X : Type 0} (xs : List X) (i : ℕ) (d e : X) → i < length xs → get_or xs i d ≡ get_or xs i e
same_default [] i d e less = absurd (omega (arith, less))
same_default (x ∷ xs) zero d e less = refl
same_default (x ∷ xs) (suc i) d e less = same_default xs i d e (omega (arith, less))

pub Contains-from_map : {X Y : Type 0} (f : X → Y) (xs : List X) (y : Y) → Contains (map f xs) y → (x : X) × Contains xs x × (f x ≡ y)
Contains-from_map f [] y has = absurd (Contains-none y has)
Contains-from_map f (x ∷ xs) y has = ⊎_elim
    (λ is. (x, Contains-here x xs, is))
    (λ later. let found = Contains-from_map f xs y later in (found.0, Contains-later found.0 x xs found.1, found.2))
    (Contains-cases y (f x) (map f xs) has)

module _ {S A : Type 0} (game : Game S A) (policy : Policy S A) (finite : IsFinite game policy) (leads : AlwaysLeads game) (acts : ActsEverywhere game policy) (trap : List S) (is : IsTrap game policy trap) where
  -- the states of the trap, by their numbers
  abbrev state_at : ℕ → S
  state_at i = get_or trap i is.some.0

  at : (i : ℕ) → i < length trap → Contains trap (state_at i)
  at i less = (i, less, same_default trap i (state_at i) is.some.0 less)

  stays_at : (i : ℕ) → i < length trap → StaysIn game policy trap (state_at i)
  stays_at i less = is.each (state_at i) (at i less)

  found_at : (state : S) (has : Contains trap state) → state_at has.0 ≡ state
  found_at state has = same_default trap has.0 is.some.0 state has.1 ∙ has.2

  -- the numbers of states of the trap
  abbrev numbers : (states : List S) → ((state : S) → Contains states state → Contains trap state) → List ℕ
  numbers [] all = []
  numbers (first ∷ states) all = (all first (Contains-here first states)).0 ∷ numbers states (λ state has. all state (Contains-later state first states has))

  numbers_from : (states : List S) (all : (state : S) → Contains states state → Contains trap state) (j : ℕ) → Contains (numbers states all) j → (j < length trap) × Contains states (state_at j)
  numbers_from [] all j has = absurd (Contains-none j has)
  numbers_from (first ∷ states) all j has = ⊎_elim
      (λ one.
      let there = all first (Contains-here first states) in
      let within : there.0 < length trap = there.1 in
      let same : state_at there.0 ≡ first = found_at first there in (
        subst (λ k. k < length trap) one within,
        subst (λ k. Contains (first ∷ states) (state_at k)) one (subst (λ s. Contains (first ∷ states) s) (sym same) (Contains-here first states)),
      ))
      (λ later.
      let rest = numbers_from states (λ state there. all state (Contains-later state first states there)) j later in
      (rest.0, Contains-later (state_at j) first states rest.1))
      (Contains-cases j (all first (Contains-here first states)).0 (numbers states (λ state there. all state (Contains-later state first states there))) has)

  abbrev Numbered : List ℕ → S → Type 0
  Numbered js state = (j : ℕ) × Contains js j × (state_at j ≡ state)

  numbers_has : (states : List S) (all : (state : S) → Contains states state → Contains trap state) (state : S) → Contains states state → Numbered (numbers states all) state
  numbers_has [] all state has = absurd (Contains-none state has)
  numbers_has (first ∷ states) all state has = ⊎_elim
      (λ one.
      let there = all first (Contains-here first states) in
      (there.0, Contains-here there.0 (numbers states (λ other has_it. all other (Contains-later other first states has_it))), found_at first there ∙ one))
      (λ later.
      let rest = numbers_has states (λ other there. all other (Contains-later other first states there)) state later in
      (rest.0, Contains-later rest.0 (all first (Contains-here first states)).0 (numbers states (λ other there. all other (Contains-later other first states there))) rest.1, rest.2))
      (Contains-cases state first states has)

  -- the edges that are kept: all of a fair choice, one of an unfair one
  abbrev kept_of : (state : S) (stays : StaysIn game policy trap state) → game.IsUnfair stays.choice ⊎ (¬ game.IsUnfair stays.choice) → List ℕ
  kept_of state stays (inl unfair) = (stays.unfair unfair).2.0 ∷ []
  kept_of state stays (inr fair) = numbers (finite.nexts state stays.choice) (λ after has. stays.fair fair after (finite.lists state stays.choice after has))

  abbrev kept_at : (i : ℕ) → (i < length trap) ⊎ (length trap ≤ i) → List ℕ
  kept_at i (inl less) = kept_of (state_at i) (stays_at i less) (known game policy finite (stays_at i less).choice)
  kept_at i (inr over) = []

  abbrev kept : ℕ → List ℕ
  kept i = kept_at i (cases_lt i (length trap))

  kept_step : (state : S) (stays : StaysIn game policy trap state) (which : game.IsUnfair stays.choice ⊎ (¬ game.IsUnfair stays.choice)) (j : ℕ) → Contains (kept_of state stays which) j → (j < length trap) × Step game policy state (state_at j)
  kept_step state stays (inl unfair) j has =
      let next = stays.unfair unfair in
      let within : next.2.0 < length trap = next.2.1 in
      let same : state_at next.2.0 ≡ next.0 = found_at next.0 next.2 in
      let step : Step game policy state (state_at next.2.0) = step_of game policy state stays.choice (state_at next.2.0) stays.open_ stays.chosen (subst (λ s. game.IsNext state stays.choice s) (sym same) next.1) in
      ⊎_elim
      (λ one. (subst (λ k. k < length trap) one within, subst (λ k. Step game policy state (state_at k)) one step))
      (λ none. absurd (Contains-none j none))
      (Contains-cases j next.2.0 [] has)
  kept_step state stays (inr fair) j has =
      let found = numbers_from (finite.nexts state stays.choice) (λ after there. stays.fair fair after (finite.lists state stays.choice after there)) j has in
      (found.0, step_of game policy state stays.choice (state_at j) stays.open_ stays.chosen (finite.lists state stays.choice (state_at j) found.1))

  edge_at : (i j : ℕ) (side : (i < length trap) ⊎ (length trap ≤ i)) → Contains (kept_at i side) j → (i < length trap) × (j < length trap) × Step game policy (state_at i) (state_at j)
  edge_at i j (inl less) has = let step = kept_step (state_at i) (stays_at i less) (known game policy finite (stays_at i less).choice) j has in (less, step.0, step.1)
  edge_at i j (inr over) has = absurd (Contains-none j has)

  kept_some : (state : S) (stays : StaysIn game policy trap state) (which : game.IsUnfair stays.choice ⊎ (¬ game.IsUnfair stays.choice)) → (j : ℕ) × Contains (kept_of state stays which) j
  kept_some state stays (inl unfair) = ((stays.unfair unfair).2.0, Contains-here (stays.unfair unfair).2.0 [])
  kept_some state stays (inr fair) =
      let acting = acts state stays.reached stays.open_ in
      let same : acting.0 ≡ stays.choice = same_Some acting.0 stays.choice (sym acting.1 ∙ stays.chosen) in
      let after = leads state stays.choice (subst (λ c. game.IsApplicable state c) same acting.2) in
      let found = numbers_has (finite.nexts state stays.choice) (λ other there. stays.fair fair other (finite.lists state stays.choice other there)) after.0 (finite.listed state stays.choice after.0 after.1) in
      (found.0, found.1)

  some_at : (i : ℕ) (side : (i < length trap) ⊎ (length trap ≤ i)) → i < length trap → (j : ℕ) × Contains (kept_at i side) j
  some_at i (inl less) within = kept_some (state_at i) (stays_at i less) (known game policy finite (stays_at i less).choice)
  some_at i (inr over) within = absurd (omega (arith, over, within))

  kept_fair : (state : S) (stays : StaysIn game policy trap state) (which : game.IsUnfair stays.choice ⊎ (¬ game.IsUnfair stays.choice)) (choice : A) (after : S) → policy state ≡ Some choice → ¬ game.IsUnfair choice → game.IsNext state choice after → Numbered (kept_of state stays which) after
  kept_fair state stays (inl unfair) choice after chosen is_fair next = absurd (is_fair (subst (λ c. game.IsUnfair c) (same_Some stays.choice choice (sym stays.chosen ∙ chosen)) unfair))
  kept_fair state stays (inr fair) choice after chosen is_fair next =
      let same : choice ≡ stays.choice = same_Some choice stays.choice (sym chosen ∙ stays.chosen) in
      numbers_has (finite.nexts state stays.choice) (λ other there. stays.fair fair other (finite.lists state stays.choice other there)) after
      (finite.listed state stays.choice after (subst (λ c. game.IsNext state c after) same next))

  fair_at : (i : ℕ) (side : (i < length trap) ⊎ (length trap ≤ i)) → i < length trap → (choice : A) (after : S) → policy (state_at i) ≡ Some choice → ¬ game.IsUnfair choice → game.IsNext (state_at i) choice after → Numbered (kept_at i side) after
  fair_at i (inl less) within choice after chosen fair next = kept_fair (state_at i) (stays_at i less) (known game policy finite (stays_at i less).choice) choice after chosen fair next
  fair_at i (inr over) within choice after chosen fair next = absurd (omega (arith, over, within))

  -- walks along kept edges stay within the trap
  remains : (i : ℕ) (js : List ℕ) (k : ℕ) → Walk (Edge kept) i js k → i < length trap → k < length trap
  remains i js k (stay s) within = within
  remains i js k (leave s t u rest step walk) within = remains t rest u walk (edge_at s t (cases_lt s (length trap)) step).1

  pub lasso_of : Lasso game policy
  lasso_of =
      let begin = is.some.1.0 in
      let begin_within : begin < length trap = is.some.1.1 in
      let found = tour_from kept (length trap) (λ i j has. (edge_at i j (cases_lt i (length trap)) has).0) begin (λ i way. some_at i (cases_lt i (length trap)) (remains begin way.0 i way.1 begin_within)) in
      let knot = found.0 in
      let loop = found.1 in
      let tour = found.3 in
      let knot_within : knot < length trap = remains begin found.2.0 knot found.2.1 begin_within in
      let stem = walk_to game policy (state_at knot) (stays_at knot knot_within).reached in
      record {
        stem = stem.0;
        knot = state_at knot;
        loop = map state_at loop;
        comes = stem.1;
        closes = walk_map state_at (λ i j edge. (edge_at i j (cases_lt i (length trap)) edge).2) knot loop knot tour.closes;
        moves = let long = length-map loop state_at in let some = tour.moves in omega (arith, long, some);
        fair = λ state choice after has chosen fair next.
            let from = Contains-from_map state_at loop state has in
            let i = from.0 in
            let out = (passes knot loop knot tour.closes i from.1).1 in
            let within = (edge_at i out.0 (cases_lt i (length trap)) out.1).0 in
            let to = fair_at i (cases_lt i (length trap)) within choice after (ap policy from.2 ∙ chosen) fair (subst (λ s. game.IsNext s choice after) (sym from.2) next) in
            let follows = follows_map state_at loop knot i to.0 (tour.full i to.0 from.1 to.1) in
            let P : S → Type 0 = λ s. Follows (map state_at loop ++ state_at knot ∷ []) s (state_at to.0) in
            subst (λ t. Follows (map state_at loop ++ state_at knot ∷ []) state t) to.2 (subst P from.2 follows);
      }
