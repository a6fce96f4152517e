-- What the texts of findings tell.
use Rattle.std.proofs.Common.{◌≡◌, ◌<◌, ◌+◌, ◌-◌, ◌++◌, ℕ, List, [], ◌∷◌, Bool, true, false, Some, All, length, map, slice_get, refl, sym, ap, ◌∙◌, subst, inl, inr, ⊎_elim, append-nil, arith}
use Rattle.std.proofs.lemmas.Bool.{lt-ltb}
use Rattle.std.proofs.lemmas.List.{length-map}
use Rattle.std.specs.Prelude.{◌⊎◌, Contains, codes, if◌then◌else◌, nat_lt}
use Rattle.std.specs.Fmt.{decimal}
use Rattle.std.specs.List.{AllZip, flat_map}
use Rattle.fond_text.specs.Lists.{AreDistinct}
use Rattle.fond_games.proofs.Lists.{Contains-cases, Contains-here, Contains-later, Contains-none}
use Rattle.fond_games.specs.Findings.{AreReached, ShowsLasso, ShowsStuck, TellsRank}
use Rattle.fond_games.specs.Lassos.{ActsEverywhere}
use Rattle.fond_games.specs.Rankings.{IsLeastRanking}
use Rattle.fond_games.specs.Renaming.{FirstUsed}
use Rattle.fond_games.specs.Told.{TellsNone, TellsSolution, numbers_line, rank_text}
use Rattle.fond_policy.specs.Counts.{ReachesMore}
use Rattle.fond_policy.proofs.Counted.{more_counted}
use Rattle.fond_task.specs.declared.task.Task.{Task}
use Rattle.fond_task.specs.Policies.{IsGoal, Policy, Reach, game}
use Rattle.fond_task.specs.Solutions.{IsSolution}
use Rattle.fond_task.specs.Texts.{state_text}
use Rattle.fond_lasso.specs.Ordered.{AreRenamed}
use Rattle.fond_lasso.specs.Listing.{IsLassoText, IsStuckText, level_text, levels_text}
use Rattle.fond_lasso.proofs.Listing.{level_is}
use Rattle.fond_lasso.proofs.Relisted.{retold, state_at, states_among, states_distinct, texts_same}
use Rattle.fond_lasso.proofs.Told.{told_below}

-- a state before others, if it is kept
abbrev kept : List Bool → List (List Bool) → Bool → List (List Bool)
kept state others is_kept = if is_kept then state ∷ others else others

-- the states that are no goals, by their levels
abbrev open_of : List (List Bool) → List ℕ → List (List Bool)
open_of (s ∷ states) (l ∷ levels) = kept s (open_of states levels) (nat_lt 1 l)
open_of states levels = []

module _ (task : Task) (policy : Policy) where
  -- of the states that a policy reaches, no more than a limit, there are not more than that
  pub not_more : (limit : ℕ) (states : List (List Bool)) → AreReached (game task) policy limit states → ¬ ReachesMore task policy limit
  not_more limit states reached more =
      let over = more_counted task policy limit (length states) more (record { states = states; once = reached.once; reached = reached.reached; all = reached.all; counted = refl }) in
      let few = reached.few in
      absurd (omega (arith, over, few))

  module _ (rank : List Bool → ℕ) (least : IsLeastRanking (game task) policy rank) where
    -- a state with its level: it is a goal and left out, or it is none and told with its rank
    data Told (state : List Bool) (level : ℕ) : Type 0 where
      left_out : IsGoal task state → nat_lt 1 level ≡ false → Told state level
      ranked : ¬ IsGoal task state → nat_lt 1 level ≡ true → level_text task state level ≡ rank_text (state_text task) rank state → Told state level

    told : (state : List Bool) (level : ℕ) → Reach task policy state → TellsRank (game task) rank state level → Told state level
    told state level reached (inl is) = Told.left_out is.0 (ap (nat_lt 1) is.1)
    told state level reached (inr is) =
        let some : 0 < rank state = least.is_ranking.some state reached is.0 in
        let own : level ≡ rank state + 1 = is.1 in
        let above : 1 < level = omega arith in
        let less : level - 1 ≡ rank state = omega arith in
        Told.ranked is.0 (lt-ltb 1 level above) (sym (level_is task state level above) ∙ ap (λ n. codes "rank " ++ decimal n ++ codes "\n" ++ state_text task state) less)

    abbrev AreTold : List (List Bool) → List ℕ → Type 0
    AreTold = AllZip (TellsRank (game task) rank)

    abbrev AllReached : List (List Bool) → Type 0
    AllReached states = (state : List Bool) → Contains states state → Reach task policy state

    later_reached : (s : List Bool) (states : List (List Bool)) → AllReached (s ∷ states) → AllReached states
    later_reached s states reached state has = reached state (Contains-later state s states has)

    -- the text by levels is that of the ranks of the states that are no goals
    texts : (states : List (List Bool)) (levels : List ℕ) → AreTold states levels → AllReached states → levels_text task states levels ≡ flat_map (rank_text (state_text task) rank) (open_of states levels)
    texts [] levels all reached = refl
    texts (s ∷ states) [] all reached = refl
    texts (s ∷ states) (l ∷ levels) all reached = by (told s l (reached s (Contains-here s states)) all.0) (texts states levels all.1 (later_reached s states reached))
      where
        by : Told s l → levels_text task states levels ≡ flat_map (rank_text (state_text task) rank) (open_of states levels) → level_text task s l ++ levels_text task states levels ≡ flat_map (rank_text (state_text task) rank) (kept s (open_of states levels) (nat_lt 1 l))
        by (Told.left_out is none) same =
            ap (λ (b : Bool). (if b then codes "rank " ++ decimal (l - 1) ++ codes "\n" ++ state_text task s else []) ++ levels_text task states levels) none
            ∙ same ∙ ap (λ (b : Bool). flat_map (rank_text (state_text task) rank) (kept s (open_of states levels) b)) (sym none)
        by (Told.ranked still some text) same =
            ap (λ (t : List ℕ). t ++ levels_text task states levels) text ∙ ap (λ (t : List ℕ). rank_text (state_text task) rank s ++ t) same
            ∙ ap (λ (b : Bool). flat_map (rank_text (state_text task) rank) (kept s (open_of states levels) b)) (sym some)

    -- the open states are among the states and no goals
    among : (states : List (List Bool)) (levels : List ℕ) → AreTold states levels → AllReached states → (state : List Bool) → Contains (open_of states levels) state → Contains states state × (¬ IsGoal task state)
    among [] levels all reached state has = absurd (Contains-none state has)
    among (s ∷ states) [] all reached state has = absurd (Contains-none state has)
    among (s ∷ states) (l ∷ levels) all reached state has = by (told s l (reached s (Contains-here s states)) all.0) (λ more. among states levels all.1 (later_reached s states reached) state more)
      where
        later : Contains states state × (¬ IsGoal task state) → Contains (s ∷ states) state × (¬ IsGoal task state)
        later found = (Contains-later state s states found.0, found.1)

        by : Told s l → (Contains (open_of states levels) state → Contains states state × (¬ IsGoal task state)) → Contains (s ∷ states) state × (¬ IsGoal task state)
        by (Told.left_out is none) again = later (again (subst (λ (b : Bool). Contains (kept s (open_of states levels) b) state) none has))
        by (Told.ranked still some text) again = ⊎_elim
            (λ (is : s ≡ state). (subst (Contains (s ∷ states)) is (Contains-here s states), subst (λ (one : List Bool). ¬ IsGoal task one) is still))
            (λ more. later (again more))
            (Contains-cases state s (open_of states levels) (subst (λ (b : Bool). Contains (kept s (open_of states levels) b) state) some has))

    -- each state that is no goal is among the open states
    all_open : (states : List (List Bool)) (levels : List ℕ) → AreTold states levels → AllReached states → (state : List Bool) → Contains states state → ¬ IsGoal task state → Contains (open_of states levels) state
    all_open [] levels all reached state has open_ = absurd (Contains-none state has)
    all_open (s ∷ states) [] all reached state has open_ = absurd all
    all_open (s ∷ states) (l ∷ levels) all reached state has open_ =
        by (told s l (reached s (Contains-here s states)) all.0) (Contains-cases state s states has) (λ later. all_open states levels all.1 (later_reached s states reached) state later open_)
      where
        by : Told s l → (s ≡ state) ⊎ Contains states state → (Contains states state → Contains (open_of states levels) state) → Contains (kept s (open_of states levels) (nat_lt 1 l)) state
        by (Told.left_out is none) (inl same) again = absurd (open_ (subst (IsGoal task) same is))
        by (Told.left_out is none) (inr later) again = subst (λ (b : Bool). Contains (kept s (open_of states levels) b) state) (sym none) (again later)
        by (Told.ranked still some text) (inl same) again = subst (λ (b : Bool). Contains (kept s (open_of states levels) b) state) (sym some) (subst (Contains (s ∷ open_of states levels)) same (Contains-here s (open_of states levels)))
        by (Told.ranked still some text) (inr later) again = subst (λ (b : Bool). Contains (kept s (open_of states levels) b) state) (sym some) (Contains-later state s (open_of states levels) (again later))

    -- no open state occurs twice
    once_open : (states : List (List Bool)) (levels : List ℕ) → AreTold states levels → AllReached states → AreDistinct states → AreDistinct (open_of states levels)
    once_open [] levels all reached once = tt
    once_open (s ∷ states) [] all reached once = tt
    once_open (s ∷ states) (l ∷ levels) all reached once = by (nat_lt 1 l) (once_open states levels all.1 (later_reached s states reached) once.1)
      where
        by : (b : Bool) → AreDistinct (open_of states levels) → AreDistinct (kept s (open_of states levels) b)
        by true rest = (λ has. once.0 (among states levels all.1 (later_reached s states reached) s has).0, rest)
        by false rest = rest

    pub tells_solution : (limit : ℕ) (states : List (List Bool)) (levels text : List ℕ) → AreReached (game task) policy limit states → IsSolution task policy → AreTold states levels
        → text ≡ codes "solution\n" ++ levels_text task states levels → TellsSolution (game task) (state_text task) policy text
    tells_solution limit states levels text reached solution all is = record {
      solution = solution;
      rank = rank;
      least = least;
      states = open_of states levels;
      open_ = record {
        once = once_open states levels all reached.reached reached.once;
        reached = λ state has. (let found = among states levels all reached.reached state has in (reached.reached state found.0, found.1));
        all = λ state is_reached no. all_open states levels all reached.reached state (reached.all state is_reached) no;
      };
      told = is ∙ ap (λ (t : List ℕ). codes "solution\n" ++ t) (texts states levels all reached.reached);
    }

  -- the numbers of a run are within the states
  pub stuck_within : (states : List (List Bool)) (stem : List ℕ) → ShowsStuck (game task) policy states stem → All (λ number. number < length states) stem
  stuck_within states stem shows = told_below states stem (shows.walked ++ shows.last ∷ []) shows.told

  pub stem_within : (states : List (List Bool)) (stem cycle : List ℕ) → ShowsLasso (game task) policy states stem cycle → All (λ number. number < length states) stem
  stem_within states stem cycle shows = told_below states stem (shows.lasso.stem ++ shows.lasso.knot ∷ []) shows.stem_told

  pub cycle_within : (states : List (List Bool)) (stem cycle : List ℕ) → ShowsLasso (game task) policy states stem cycle → All (λ number. number < length states) cycle
  cycle_within states stem cycle shows = told_below states cycle (shows.lasso.loop ++ shows.lasso.knot ∷ []) shows.cycle_told

  nothing_told : (used new : List ℕ) → map (slice_get used) new ≡ map Some [] → new ≡ []
  nothing_told used [] told = refl
  nothing_told used (n ∷ new) told = cc

  pub tells_stuck : (limit : ℕ) (states : List (List Bool)) (stem text : List ℕ) → AreReached (game task) policy limit states → ¬ IsSolution task policy → ShowsStuck (game task) policy states stem → IsStuckText task states stem text
      → TellsNone (game task) (state_text task) policy text
  tells_stuck limit states stem text reached none shows is =
      let used = is.0 in
      let new = is.1 in
      let renamed : AreRenamed (length states) stem [] used new is.2 = is.3 in
      let listed : List (List Bool) = map (state_at states) used in
      let over : is.2 ≡ [] = nothing_told used is.2 renamed.cycle_told in
      let first : FirstUsed 0 new (length listed) =
      subst (λ n. FirstUsed 0 new n) (sym (length-map used (state_at states))) (subst (λ (numbers : List ℕ). FirstUsed 0 numbers (length used)) (ap (λ (more : List ℕ). new ++ more) over ∙ append-nil new) renamed.first) in
      let own : text ≡ codes "stuck\n" ++ flat_map (state_text task) listed ++ numbers_line (codes "stem") new =
      is.4 ∙ ap (λ (t : List ℕ). codes "stuck\n" ++ t ++ numbers_line (codes "stem") new) (texts_same states task used renamed.below) in
      subst (TellsNone (game task) (state_text task) policy) (sym own)
      (TellsNone.stuck listed new none
      (record {
        walked = shows.walked;
        last = shows.last;
        comes = shows.comes;
        open_ = shows.open_;
        none = shows.none;
        told = retold states used new stem (shows.walked ++ shows.last ∷ []) renamed.stem_told shows.told;
      }) (states_distinct states used reached.once renamed.once renamed.below) (λ state has. reached.reached state (states_among states used renamed.below state has)) first)

  pub tells_lasso : (limit : ℕ) (states : List (List Bool)) (stem cycle text : List ℕ) → AreReached (game task) policy limit states → ¬ IsSolution task policy → ActsEverywhere (game task) policy
      → ShowsLasso (game task) policy states stem cycle → IsLassoText task states stem cycle text → TellsNone (game task) (state_text task) policy text
  tells_lasso limit states stem cycle text reached none acts shows is =
      let used = is.0 in
      let new = is.1 in
      let new_cycle = is.2 in
      let renamed : AreRenamed (length states) stem cycle used new new_cycle = is.3 in
      let listed : List (List Bool) = map (state_at states) used in
      let first : FirstUsed 0 (new ++ new_cycle) (length listed) = subst (λ n. FirstUsed 0 (new ++ new_cycle) n) (sym (length-map used (state_at states))) renamed.first in
      let own : text ≡ codes "lasso\n" ++ flat_map (state_text task) listed ++ numbers_line (codes "stem") new ++ numbers_line (codes "cycle") new_cycle =
      is.4 ∙ ap (λ (t : List ℕ). codes "lasso\n" ++ t ++ numbers_line (codes "stem") new ++ numbers_line (codes "cycle") new_cycle) (texts_same states task used renamed.below) in
      subst (TellsNone (game task) (state_text task) policy) (sym own)
      (TellsNone.lasso listed new new_cycle none acts
      (record {
        lasso = shows.lasso;
        stem_told = retold states used new stem (shows.lasso.stem ++ shows.lasso.knot ∷ []) renamed.stem_told shows.stem_told;
        cycle_told = retold states used new_cycle cycle (shows.lasso.loop ++ shows.lasso.knot ∷ []) renamed.cycle_told shows.cycle_told;
      }) (states_distinct states used reached.once renamed.once renamed.below) (λ state has. reached.reached state (states_among states used renamed.below state has)) first)
