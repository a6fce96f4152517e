-- What refutes a solution, and what suffices for one, in games of any kind.
use Rattle.std.proofs.Common.{inl, inr, ⊎_elim, ◌≡◌, ℕ, zero, suc, ◌<◌, ◌≤◌, List, [], ◌∷◌, ◌++◌, Some, length, sym, ◌∙◌, subst, length-append, arith}
use Rattle.std.specs.Prelude.{◌⊎◌, Contains}
use Rattle.std.proofs.lemmas.Option.{same_Some}
use Rattle.fond_state.specs.Games.{Game, Policy, Reach, start, StaysIn, IsTrap, IsSolution}
use Rattle.fond_games.specs.Walks.{Walk, stay, leave, IsInReach}
use Rattle.fond_games.specs.Lassos.{Step, Lasso, Stuck, ActsEverywhere, NoneUnfair, AllUnfair, GoalsInReach, WalksBounded}
use Rattle.fond_games.specs.Rankings.{IsRanking}
use Rattle.fond_games.proofs.Lists.{Contains-none, Contains-either, Contains-cases}
use Rattle.fond_games.proofs.Walking.{join, passes, turned, follows_has, walk_to, reach_on, step_of}

module _ {S A : Type 0} (game : Game S A) (policy : Policy S A) where
  -- the states of a lasso's closed walk are a trap
  pub lasso_trap : (lasso : Lasso game policy) → IsTrap game policy lasso.loop
  lasso_trap lasso = record { some = (lasso.knot, knot_in); each = λ state has. stays state has (passes lasso.knot lasso.loop lasso.knot lasso.closes state has) }
    where
      knot_in : Contains lasso.loop lasso.knot
      knot_in = turned lasso.knot lasso.loop lasso.knot lasso.closes lasso.moves

      inside : (state : S) → Contains lasso.loop state ⊎ (state ≡ lasso.knot) → Contains lasso.loop state
      inside state (inl has) = has
      inside state (inr is) = subst (λ s. Contains lasso.loop s) (sym is) knot_in

      on_loop : (state : S) → Contains (lasso.loop ++ lasso.knot ∷ []) state → Contains lasso.loop state
      on_loop state has = ⊎_elim
          (λ left. left)
          (λ right. ⊎_elim (λ is. subst (λ s. Contains lasso.loop s) is knot_in) (λ later. absurd (Contains-none state later)) (Contains-cases state lasso.knot [] right))
          (Contains-either state lasso.loop (lasso.knot ∷ []) has)

      stays : (state : S) → Contains lasso.loop state → IsInReach (Step game policy) lasso.knot state × ((after : S) × Step game policy state after × (Contains lasso.loop after ⊎ (after ≡ lasso.knot))) → StaysIn game policy lasso.loop state
      stays state has found =
          let step = found.1.1 in
          let knot_reached = reach_on game policy game.first lasso.stem lasso.knot lasso.comes start in
          record {
            reached = reach_on game policy lasso.knot found.0.0 state found.0.1 knot_reached;
            open_ = step.open_;
            choice = step.choice;
            chosen = step.chosen;
            fair = λ fair after next. on_loop after (follows_has (lasso.loop ++ lasso.knot ∷ []) state after (lasso.fair state step.choice after has step.chosen fair next));
            unfair = λ unfair. (found.1.0, step.next, inside found.1.0 found.1.2);
          }

  pub refutes : Stuck game policy ⊎ Lasso game policy → ¬ IsSolution game policy
  refutes (inl stuck) solution = stuck.none (solution.acts stuck.state stuck.reached stuck.open_)
  refutes (inr lasso) solution = solution.free lasso.loop (lasso_trap lasso)

  module _ (rank : S → ℕ) (ranking : IsRanking game policy rank) (known : (action : A) → game.IsUnfair action ⊎ (¬ game.IsUnfair action)) (trap : List S) (is : IsTrap game policy trap) where
    -- no state of a trap has a rank below this
    none_below : (n : ℕ) (state : S) → Contains trap state → ¬ (rank state < n)
    none_below zero state has low = omega (arith, low)
    none_below (suc n) state has low =
        let stays = is.each state has in
        ⊎_elim
        (λ unfair.
        let next = stays.unfair unfair in
        ⊎_elim
        (λ goal. (is.each next.0 next.2).open_ goal)
        (λ less. none_below n next.0 next.2 (omega (arith, low, less)))
        (ranking.unfair state stays.choice next.0 stays.reached stays.open_ stays.chosen unfair next.1))
        (λ fair.
        let next = ranking.fair state stays.choice stays.reached stays.open_ stays.chosen fair in
        let there = stays.fair fair next.0 next.1 in
        ⊎_elim
        (λ goal. (is.each next.0 there).open_ goal)
        (λ less. none_below n next.0 there (omega (arith, low, less)))
        next.2)
        (known stays.choice)

  pub ranked_free : (rank : S → ℕ) → IsRanking game policy rank → ((action : A) → game.IsUnfair action ⊎ (¬ game.IsUnfair action)) → (trap : List S) → ¬ IsTrap game policy trap
  ranked_free rank ranking known trap is = none_below rank ranking known trap is (suc (rank is.some.0)) is.some.0 is.some.1 (omega arith)

  -- in a reached state that is no goal, what is chosen is applicable
  pub applies : ActsEverywhere game policy → (state : S) (choice : A) → Reach game policy state → ¬ game.IsGoal state → policy state ≡ Some choice → game.IsApplicable state choice
  applies acts state choice reached open_ chosen =
      let acting = acts state reached open_ in
      subst (λ c. game.IsApplicable state c) (same_Some acting.0 choice (sym acting.1 ∙ chosen)) acting.2

  module _ (acts : ActsEverywhere game policy) (trap : List S) (is : IsTrap game policy trap) where
    applicable : (state : S) (has : Contains trap state) → game.IsApplicable state (is.each state has).choice
    applicable state has = let stays = is.each state has in applies acts state stays.choice stays.reached stays.open_ stays.chosen

    -- where no action is unfair, a walk does not leave a trap
    never : NoneUnfair game → (state : S) (states : List S) (goal : S) → Contains trap state → Walk (Step game policy) state states goal → ¬ game.IsGoal goal
    never none state states goal has (stay s) = (is.each s has).open_
    never none state states goal has (leave s t u rest step walk) =
        let stays = is.each s has in
        let same : step.choice ≡ stays.choice = same_Some step.choice stays.choice (sym step.chosen ∙ stays.chosen) in
        never none t rest u (stays.fair (none s stays.choice (applicable s has)) t (subst (λ c. game.IsNext s c t) same step.next)) walk

    -- where every action is unfair, walks within a trap are as long as one likes
    long : AllUnfair game → (n : ℕ) (state : S) → Contains trap state → (states : List S) × (last : S) × Walk (Step game policy) state states last × (n ≤ length states)
    long all zero state has = ([], state, stay state, omega arith)
    long all (suc n) state has =
        let stays = is.each state has in
        let next = stays.unfair (all state stays.choice (applicable state has)) in
        let rest = long all n next.0 next.2 in
        (state ∷ rest.0, rest.1, leave state next.0 rest.1 rest.0 (step_of game policy state stays.choice next.0 stays.open_ stays.chosen next.1) rest.2, omega (arith, rest.3))

  pub fair_solution : NoneUnfair game → ActsEverywhere game policy → GoalsInReach game policy → IsSolution game policy
  fair_solution none acts goals = record {
    acts = acts;
    free = λ trap is.
        let first = is.each is.some.0 is.some.1 in
        let way = goals is.some.0 first.reached in
        never acts trap is none is.some.0 way.0 way.1 is.some.1 way.2 way.3;
  }

  pub unfair_solution : AllUnfair game → ActsEverywhere game policy → WalksBounded game policy → IsSolution game policy
  unfair_solution all acts bounded = record {
    acts = acts;
    free = λ trap is.
        let first = is.each is.some.0 is.some.1 in
        let stem = walk_to game policy is.some.0 first.reached in
        let walk = long acts trap is all (suc bounded.0) is.some.0 is.some.1 in
        let short = bounded.1 (stem.0 ++ walk.0) walk.1 (join game.first stem.0 is.some.0 walk.0 walk.1 stem.1 walk.2) in
        omega (arith, short, walk.3, length-append stem.0 walk.0);
  }
