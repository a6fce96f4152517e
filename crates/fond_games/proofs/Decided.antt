-- The laws of lassos and rankings, over any game whose parts are decided.
use Rattle.std.proofs.Common.{inl, inr, ⊎_elim, ◌≡◌, ℕ, List, Bool, true, false, Option, Some, None, refl, sym, ap, ◌∙◌, arith}
use Rattle.std.specs.Prelude.{◌⊎◌, ◌&&◌, Contains, not}
use Rattle.std.proofs.lemmas.Bool.{cases_Bool, false≢true}
use Rattle.fond_state.specs.Games.{Game, Policy, start, IsSolution}
use Rattle.fond_games.specs.Lassos.{Lasso, Stuck, Acts, ActsEverywhere, AlwaysLeads, NoneUnfair, AllUnfair, GoalsInReach, WalksBounded}
use Rattle.fond_games.specs.Rankings.{IsRanking}
use Rattle.fond_games.specs.Finite.{IsFinite, Tests, game_of, ReachesOnly}
use Rattle.fond_games.specs.Laws.{LassosRefute, LassosAreFound, FairSolutions, UnfairSolutions, RankingsDecide}
use Rattle.fond_games.proofs.Lists.{search_list, and_left, and_right, and_both, not_true, not_false, both_ways, decided}
use Rattle.fond_games.proofs.Refuting.{refutes, ranked_free, fair_solution, unfair_solution}
use Rattle.fond_games.proofs.Ranked.{decides, known, solution_ranked, goal_ahead, walks_short}
use Rattle.fond_games.proofs.Trapped.{lasso_of}

module _ {S A : Type 0} (game : Game S A) (policy : Policy S A) (finite : IsFinite game policy) where
  -- whether a choice is an applicable action
  abbrev acts_by : Option A → S → Bool
  acts_by None state = false
  acts_by (Some choice) state = finite.is_applicable state choice

  acts_from : (state : S) → acts_by (policy state) state ≡ true → Acts game policy state
  acts_from state is = go (policy state) refl
    where
      go : (o : Option A) → policy state ≡ o → Acts game policy state
      go None none = absurd (false≢true (ap (λ o. acts_by o state) (sym none) ∙ is))
      go (Some choice) chosen = (choice, chosen, (finite.applicable state choice).0 (ap (λ o. acts_by o state) (sym chosen) ∙ is))

  acts_to : (state : S) → Acts game policy state → acts_by (policy state) state ≡ true
  acts_to state acting = ap (λ o. acts_by o state) acting.1 ∙ (finite.applicable state acting.0).1 acting.2

  abbrev is_stuck : S → Bool
  is_stuck state = not (finite.is_goal state) && not (acts_by (policy state) state)

  stuck_at : (state : S) → Contains finite.states state → is_stuck state ≡ true → Stuck game policy
  stuck_at state has is = record {
    state = state;
    reached = finite.reached state has;
    open_ = λ goal. both_ways (finite.is_goal state) ((finite.goal state).1 goal) (not_true (finite.is_goal state) (and_left (not (finite.is_goal state)) (not (acts_by (policy state) state)) is));
    none = λ acting. both_ways (acts_by (policy state) state) (acts_to state acting) (not_true (acts_by (policy state) state) (and_right (not (finite.is_goal state)) (not (acts_by (policy state) state)) is));
  }

  acts_if : ((state : S) → Contains finite.states state → is_stuck state ≡ false) → ActsEverywhere game policy
  acts_if none state reached open_ = ⊎_elim
      (λ is. acts_from state is)
      (λ fails. absurd (both_ways (is_stuck state)
      (and_both (not (finite.is_goal state)) (not (acts_by (policy state) state)) (⊎_elim (λ goal. absurd (open_ ((finite.goal state).0 goal))) (λ no_goal. not_false (finite.is_goal state) no_goal) (cases_Bool (finite.is_goal state))) (not_false (acts_by (policy state) state) fails))
      (none state (finite.all state reached))))
      (cases_Bool (acts_by (policy state) state))

  -- a policy that is no solution is stuck or has a lasso
  pub found : AlwaysLeads game → ¬ IsSolution game policy → Stuck game policy ⊎ Lasso game policy
  found leads refuted = ⊎_elim
      (λ stuck. inl (stuck_at stuck.0 stuck.1 stuck.2))
      (λ none.
      let acts = acts_if none in
      ⊎_elim
      (λ trap. inr (lasso_of game policy finite leads acts trap.0 trap.1))
      (λ ranked. absurd (refuted (record { acts = acts; free = ranked_free game policy ranked.0 ranked.1.is_ranking (known game policy finite) })))
      (decides game policy finite acts))
      (search_list is_stuck finite.states)

  -- a ranking makes a policy that acts everywhere a solution
  pub ranked_solution : ActsEverywhere game policy → (rank : S → ℕ) → IsRanking game policy rank → IsSolution game policy
  ranked_solution acts rank ranking = record { acts = acts; free = ranked_free game policy rank ranking (known game policy finite) }

  goal_known : (state : S) → game.IsGoal state ⊎ (¬ game.IsGoal state)
  goal_known state = decided (finite.is_goal state) (finite.goal state)

  -- a solution keeps goals in reach where no action is unfair
  pub keeps_goals : NoneUnfair game → IsSolution game policy → GoalsInReach game policy
  keeps_goals none solution state reached = let ranked = solution_ranked game policy finite solution in goal_ahead game policy ranked.0 ranked.1.is_ranking none solution.acts goal_known (ranked.0 state) state (omega arith) reached

  -- a solution has bounded walks where every action is unfair
  pub bounds_walks : AllUnfair game → IsSolution game policy → WalksBounded game policy
  bounds_walks all solution =
      let ranked = solution_ranked game policy finite solution in
      (ranked.0 game.first, λ states last walk. walks_short game policy ranked.0 ranked.1.is_ranking all solution.acts game.first states last walk start)

-- a game that is given by tests and lists is decided by them
finite_of : {S A : Type 0} (tests : Tests S A) (policy : Policy S A) (states : List S) → ReachesOnly (game_of tests) policy states → IsFinite (game_of tests) policy
finite_of tests policy states only = record {
  states = states;
  reached = only.reached;
  all = only.all;
  is_goal = tests.is_goal;
  goal = λ state. (λ is. is, λ is. is);
  is_applicable = tests.is_applicable;
  applicable = λ state action. (λ is. is, λ is. is);
  is_unfair = tests.is_unfair;
  unfair = λ action. (λ is. is, λ is. is);
  nexts = tests.nexts;
  listed = λ state action after is. is;
  lists = λ state action after is. is;
}

pub lassos_refute_lem : (S A : Type 0) → LassosRefute S A
lassos_refute_lem S A tests policy = refutes (game_of tests) policy

pub lassos_are_found_lem : (S A : Type 0) → LassosAreFound S A
lassos_are_found_lem S A tests policy states leads only = found (game_of tests) policy (finite_of tests policy states only) leads

pub fair_solutions_lem : (S A : Type 0) → FairSolutions S A
fair_solutions_lem S A tests policy states none only = (
  λ solution. (solution.acts, keeps_goals (game_of tests) policy (finite_of tests policy states only) none solution),
  λ given. fair_solution (game_of tests) policy none given.0 given.1,
)

pub unfair_solutions_lem : (S A : Type 0) → UnfairSolutions S A
unfair_solutions_lem S A tests policy states all only = (
  λ solution. (solution.acts, bounds_walks (game_of tests) policy (finite_of tests policy states only) all solution),
  λ given. unfair_solution (game_of tests) policy all given.0 given.1,
)

pub rankings_decide_lem : (S A : Type 0) → RankingsDecide S A
rankings_decide_lem S A tests policy states only acts = (
  λ given. ranked_solution (game_of tests) policy (finite_of tests policy states only) acts given.0 given.1,
  λ solution. solution_ranked (game_of tests) policy (finite_of tests policy states only) solution,
)
