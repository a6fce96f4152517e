-- Of a policy that reaches finitely many states: a trap is found, or the least ranking.
use Rattle.std.proofs.Common.{inl, inr, ⊎_elim, ◌≡◌, ℕ, zero, suc, ◌<◌, ◌≤◌, List, [], ◌∷◌, Bool, true, false, Option, Some, None, length, refl, sym, ap, ◌∙◌, subst, arith}
use Rattle.std.specs.Prelude.{◌⊎◌, ◌&&◌, Contains, not, cond}
use Rattle.std.specs.List.{list_any, list_all}
use Rattle.std.proofs.lemmas.Bool.{cases_Bool, cases_lt, false≢true, cond-true, cond-false}
use Rattle.fond_state.specs.Games.{Game, Policy, Reach, onward, StaysIn, IsTrap, IsSolution}
use Rattle.fond_games.specs.Walks.{Walk, stay, leave}
use Rattle.fond_games.specs.Lassos.{Step, ActsEverywhere, NoneUnfair, AllUnfair}
use Rattle.fond_games.specs.Rankings.{IsNearer, IsRanking, IsLeastRanking}
use Rattle.fond_games.specs.Finite.{IsFinite}
use Rattle.fond_games.proofs.Lists.{search_list, any_has, any_from, all_at, all_from, passing, passing_from, passing_has, and_left, and_right, and_both, not_true, not_false, both_ways, decided}
use Rattle.fond_games.proofs.Stages.{stable}
use Rattle.fond_games.proofs.Refuting.{applies}
use Rattle.fond_games.proofs.Walking.{step_of}

-- what is not true is false
to_false : (b : Bool) → ¬ (b ≡ true) → b ≡ false
to_false b no_way = ⊎_elim (λ is. absurd (no_way is)) (λ is. is) (cases_Bool b)

module _ {S A : Type 0} (game : Game S A) (policy : Policy S A) (finite : IsFinite game policy) where
  -- whether a choice can stay among the states that pass a test
  abbrev stays_by : Option A → (S → Bool) → S → Bool
  stays_by None test state = false
  stays_by (Some choice) test state = cond (finite.is_unfair choice) (list_any test (finite.nexts state choice)) (list_all test (finite.nexts state choice))

  -- whether an opponent and luck can keep the policy from a goal for this many steps, and at the end of them
  abbrev pub holds_out : ℕ → S → Bool
  holds_out zero state = not (finite.is_goal state)
  holds_out (suc k) state = holds_out k state && stays_by (policy state) (holds_out k) state

  falls : (k : ℕ) (state : S) → holds_out (suc k) state ≡ true → holds_out k state ≡ true
  falls k state is = and_left (holds_out k state) (stays_by (policy state) (holds_out k) state) is

  open_at : (k : ℕ) (state : S) → holds_out k state ≡ true → ¬ game.IsGoal state
  open_at zero state is goal = both_ways (finite.is_goal state) ((finite.goal state).1 goal) (not_true (finite.is_goal state) is)
  open_at (suc k) state is goal = open_at k state (falls k state is) goal

  open_true : (state : S) → ¬ game.IsGoal state → holds_out zero state ≡ true
  open_true state open_ = not_false (finite.is_goal state) (to_false (finite.is_goal state) (λ goal. open_ ((finite.goal state).0 goal)))

  stays_at : (k : ℕ) (state : S) → holds_out (suc k) state ≡ true → stays_by (policy state) (holds_out k) state ≡ true
  stays_at k state is = and_right (holds_out k state) (stays_by (policy state) (holds_out k) state) is

  up_at : (k : ℕ) (state : S) → holds_out k state ≡ true → stays_by (policy state) (holds_out k) state ≡ true → holds_out (suc k) state ≡ true
  up_at k state is stays = and_both (holds_out k state) (stays_by (policy state) (holds_out k) state) is stays

  goal_or_open : (state : S) → game.IsGoal state ⊎ (holds_out zero state ≡ true)
  goal_or_open state = ⊎_elim (λ goal. inl ((finite.goal state).0 goal)) (λ open_. inr (not_false (finite.is_goal state) open_)) (cases_Bool (finite.is_goal state))

  pub known : (action : A) → game.IsUnfair action ⊎ (¬ game.IsUnfair action)
  known action = decided (finite.is_unfair action) (finite.unfair action)

  fair_by : (test : S → Bool) (state : S) (choice : A) → policy state ≡ Some choice → ¬ game.IsUnfair choice → stays_by (policy state) test state ≡ list_all test (finite.nexts state choice)
  fair_by test state choice chosen fair = ap (λ o. stays_by o test state) chosen ∙ cond-false _ _ _ (to_false (finite.is_unfair choice) (λ is. fair ((finite.unfair choice).0 is)))

  unfair_by : (test : S → Bool) (state : S) (choice : A) → policy state ≡ Some choice → game.IsUnfair choice → stays_by (policy state) test state ≡ list_any test (finite.nexts state choice)
  unfair_by test state choice chosen unfair = ap (λ o. stays_by o test state) chosen ∙ cond-true _ _ _ ((finite.unfair choice).1 unfair)

  chosen_by : (test : S → Bool) (state : S) → stays_by (policy state) test state ≡ true → (choice : A) × (policy state ≡ Some choice)
  chosen_by test state is = go (policy state) refl
    where
      go : (o : Option A) → policy state ≡ o → (choice : A) × (o ≡ Some choice)
      go None none = absurd (false≢true (ap (λ o. stays_by o test state) (sym none) ∙ is))
      go (Some choice) chosen = (choice, refl)

  lower : (k j : ℕ) (state : S) → j ≤ k → holds_out k state ≡ true → holds_out j state ≡ true
  lower zero j state small is = let same : zero ≡ j = omega (arith, small) in subst (λ n. holds_out n state ≡ true) same is
  lower (suc k) j state small is = ⊎_elim
      (λ less. lower k j state (omega (arith, less)) (falls k state is))
      (λ more. let same : suc k ≡ j = omega (arith, small, more) in subst (λ n. holds_out n state ≡ true) same is)
      (cases_lt j (suc k))

  -- the most steps, up to a number, for which the policy can be kept from a goal: one less than the rank
  abbrev pub rank_to : ℕ → S → ℕ
  rank_to zero state = zero
  rank_to (suc n) state = cond (holds_out (suc n) state) (suc n) (rank_to n state)

  rank_holds : (n : ℕ) (state : S) → holds_out zero state ≡ true → holds_out (rank_to n state) state ≡ true
  rank_holds zero state open_ = open_
  rank_holds (suc n) state open_ = go (holds_out (suc n) state) refl (rank_holds n state open_)
    where
      go : (b : Bool) → holds_out (suc n) state ≡ b → holds_out (rank_to n state) state ≡ true → holds_out (cond b (suc n) (rank_to n state)) state ≡ true
      go true is before = is
      go false is before = before

  rank_most : (n : ℕ) (state : S) → rank_to n state ≤ n
  rank_most zero state = omega arith
  rank_most (suc n) state = go (holds_out (suc n) state) (rank_most n state)
    where
      go : (b : Bool) → rank_to n state ≤ n → cond b (suc n) (rank_to n state) ≤ suc n
      go true before = omega arith
      go false before = omega arith

  rank_least : (n k : ℕ) (state : S) → k ≤ n → holds_out k state ≡ true → k ≤ rank_to n state
  rank_least zero k state small is = omega (arith, small)
  rank_least (suc n) k state small is = go (holds_out (suc n) state) refl (λ less. rank_least n k state less is)
    where
      go : (b : Bool) → holds_out (suc n) state ≡ b → (k ≤ n → k ≤ rank_to n state) → k ≤ cond b (suc n) (rank_to n state)
      go true at before = omega (arith, small)
      go false at before = before (other (cases_lt k (suc n)))
        where
          other : (k < suc n) ⊎ (suc n ≤ k) → k ≤ n
          other (inl less) = omega (arith, less)
          other (inr more) = let same : k ≡ suc n = omega (arith, small, more) in absurd (both_ways (holds_out (suc n) state) (subst (λ m. holds_out m state ≡ true) same is) at)

  -- the states that hold out at a stable stage are a trap
  module _ (stage : ℕ) (same : (state : S) → Contains finite.states state → holds_out stage state ≡ true → holds_out (suc stage) state ≡ true) where
    abbrev lasting : List S
    lasting = passing (holds_out stage) finite.states

    stays_in : (state : S) → Contains finite.states state → holds_out stage state ≡ true → StaysIn game policy lasting state
    stays_in state has is =
        let more = same state has is in
        let stays = stays_at stage state more in
        let chosen = chosen_by (holds_out stage) state stays in
        let reached = finite.reached state has in
        let open_ = open_at stage state is in
        record {
          reached = reached;
          open_ = open_;
          choice = chosen.0;
          chosen = chosen.1;
          fair = λ fair after next. passing_from (holds_out stage) finite.states after (finite.all after (onward state chosen.0 after reached open_ chosen.1 next))
              (all_at (holds_out stage) (finite.nexts state chosen.0) (sym (fair_by (holds_out stage) state chosen.0 chosen.1 fair) ∙ stays) after (finite.listed state chosen.0 after next));
          unfair = λ unfair.
              let found = any_has (holds_out stage) (finite.nexts state chosen.0) (sym (unfair_by (holds_out stage) state chosen.0 chosen.1 unfair) ∙ stays) in
              let next = finite.lists state chosen.0 found.0 found.1 in
              (found.0, next, passing_from (holds_out stage) finite.states found.0 (finite.all found.0 (onward state chosen.0 found.0 reached open_ chosen.1 next)) found.2);
        }

    trap_of : (state : S) → Contains finite.states state → holds_out stage state ≡ true → IsTrap game policy lasting
    trap_of state has is = record {
      some = (state, passing_from (holds_out stage) finite.states state has is);
      each = λ other there. let kept = passing_has (holds_out stage) finite.states other there in stays_in other kept.0 kept.1;
    }

  -- if no state holds out for so many steps, the ranks are a ranking
  module _ (acts : ActsEverywhere game policy) (stage : ℕ) (none : (state : S) → Contains finite.states state → holds_out stage state ≡ false) where
    drops : (state : S) → Reach game policy state → ¬ game.IsGoal state → stays_by (policy state) (holds_out (rank_to stage state)) state ≡ false
    drops state reached open_ = to_false (stays_by (policy state) (holds_out (rank_to stage state)) state) (λ stays.
        let holds = rank_holds stage state (open_true state open_) in
        let up = up_at (rank_to stage state) state holds stays in
        ⊎_elim
        (λ less. let more = rank_least stage (suc (rank_to stage state)) state less up in omega (arith, more))
        (λ end. both_ways (holds_out stage state) (let at : rank_to stage state ≡ stage = omega (arith, end, rank_most stage state) in subst (λ n. holds_out n state ≡ true) at holds) (none state (finite.all state reached)))
        (cases_lt (rank_to stage state) stage))

    -- what does not hold out for so many steps is a goal, or has a smaller rank
    below : (k : ℕ) (after : S) → holds_out k after ≡ false → IsNearer game (λ state. suc (rank_to stage state)) (suc k) after
    below k after fails = ⊎_elim
        (λ goal. inl goal)
        (λ open_. ⊎_elim
        (λ less. inr (omega (arith, less)))
        (λ more. absurd (both_ways (holds_out k after) (lower (rank_to stage after) k after more (rank_holds stage after open_)) fails))
        (cases_lt (rank_to stage after) k))
        (goal_or_open after)

    some_fails : (test : S → Bool) (xs : List S) → list_all test xs ≡ false → (x : S) × Contains xs x × (test x ≡ false)
    some_fails test xs is = ⊎_elim
        (λ found. (found.0, found.1, not_true (test found.0) found.2))
        (λ never. absurd (both_ways (list_all test xs) (all_from test xs (λ x has. ⊎_elim (λ yes_is. yes_is) (λ no_is. absurd (both_ways (not (test x)) (not_false (test x) no_is) (never x has))) (cases_Bool (test x)))) is))
        (search_list (λ x. not (test x)) xs)

    ranks : IsRanking game policy (λ state. suc (rank_to stage state))
    ranks = record {
      some = λ state reached open_. omega arith;
      fair = λ state choice reached open_ chosen fair.
          let found = some_fails (holds_out (rank_to stage state)) (finite.nexts state choice) (sym (fair_by (holds_out (rank_to stage state)) state choice chosen fair) ∙ drops state reached open_) in
          (found.0, finite.lists state choice found.0 found.1, below (rank_to stage state) found.0 found.2);
      unfair = λ state choice after reached open_ chosen unfair next.
          below (rank_to stage state) after (to_false (holds_out (rank_to stage state) after) (λ is.
          both_ways (list_any (holds_out (rank_to stage state)) (finite.nexts state choice)) (any_from (holds_out (rank_to stage state)) (finite.nexts state choice) after (finite.listed state choice after next) is)
          (sym (unfair_by (holds_out (rank_to stage state)) state choice chosen unfair) ∙ drops state reached open_)));
    }

  -- what holds out is no goal, so it has a rank if it is below one
  below_open : (other : S → ℕ) (bound k : ℕ) (after : S) → holds_out k after ≡ true → IsNearer game other bound after → other after < bound
  below_open other bound k after is (inl goal) = absurd (open_at k after is goal)
  below_open other bound k after is (inr less) = less

  -- each ranking is larger than the number of steps
  below_each : (other : S → ℕ) → IsRanking game policy other → (k : ℕ) (state : S) → Reach game policy state → holds_out k state ≡ true → k < other state
  below_each other ranking zero state reached is = ranking.some state reached (open_at zero state is)
  below_each other ranking (suc k) state reached is =
      let stays = stays_at k state is in
      let open_ = open_at (suc k) state is in
      let chosen = chosen_by (holds_out k) state stays in
      ⊎_elim
      (λ unfair.
      let found = any_has (holds_out k) (finite.nexts state chosen.0) (sym (unfair_by (holds_out k) state chosen.0 chosen.1 unfair) ∙ stays) in
      let next = finite.lists state chosen.0 found.0 found.1 in
      let less = below_open other (other state) k found.0 found.2 (ranking.unfair state chosen.0 found.0 reached open_ chosen.1 unfair next) in
      omega (arith, below_each other ranking k found.0 (onward state chosen.0 found.0 reached open_ chosen.1 next) found.2, less))
      (λ fair.
      let found = ranking.fair state chosen.0 reached open_ chosen.1 fair in
      let next = found.1 in
      let holds = all_at (holds_out k) (finite.nexts state chosen.0) (sym (fair_by (holds_out k) state chosen.0 chosen.1 fair) ∙ stays) found.0 (finite.listed state chosen.0 found.0 next) in
      let less = below_open other (other state) k found.0 holds found.2 in
      omega (arith, below_each other ranking k found.0 (onward state chosen.0 found.0 reached open_ chosen.1 next) holds, less))
      (known chosen.0)

  -- a policy that acts everywhere has a trap or a least ranking
  pub decides : ActsEverywhere game policy → ((trap : List S) × IsTrap game policy trap) ⊎ ((rank : S → ℕ) × IsLeastRanking game policy rank)
  decides acts =
      let found = stable holds_out falls finite.states in
      ⊎_elim
      (λ some. inl (lasting found.0 found.1, trap_of found.0 found.1 some.0 some.1 some.2))
      (λ none. inr (
        λ state. suc (rank_to found.0 state),
        record { is_ranking = ranks acts found.0 none; least = λ other ranking state reached open_. below_each other ranking (rank_to found.0 state) state reached (rank_holds found.0 state (open_true state open_)) },
      ))
      (search_list (holds_out found.0) finite.states)

  -- a solution has a least ranking
  pub solution_ranked : IsSolution game policy → (rank : S → ℕ) × IsLeastRanking game policy rank
  solution_ranked solution = ⊎_elim (λ trap. absurd (solution.free trap.0 trap.1)) (λ ranked. ranked) (decides solution.acts)

module _ {S A : Type 0} (game : Game S A) (policy : Policy S A) (rank : S → ℕ) (ranking : IsRanking game policy rank) where
  -- where no action is unfair, a goal is in reach
  pub goal_ahead : NoneUnfair game → ActsEverywhere game policy → (decides : (state : S) → game.IsGoal state ⊎ (¬ game.IsGoal state)) → (n : ℕ) (state : S) → rank state ≤ n → Reach game policy state → (states : List S) × (goal : S) × Walk (Step game policy) state states goal × game.IsGoal goal
  goal_ahead none acts decides zero state small reached = ⊎_elim
      (λ goal. ([], state, stay state, goal))
      (λ open_. absurd (omega (arith, ranking.some state reached open_, small)))
      (decides state)
  goal_ahead none acts decides (suc n) state small reached = ⊎_elim
      (λ goal. ([], state, stay state, goal))
      (λ open_.
      let choice = acts state reached open_ in
      let next = ranking.fair state choice.0 reached open_ choice.1 (none state choice.0 choice.2) in
      let step = step_of game policy state choice.0 next.0 open_ choice.1 next.1 in
      ⊎_elim
      (λ goal. (state ∷ [], next.0, leave state next.0 next.0 [] step (stay next.0), goal))
      (λ less.
      let rest = goal_ahead none acts decides n next.0 (omega (arith, less, small)) (onward state choice.0 next.0 reached open_ choice.1 next.1) in
      (state ∷ rest.0, rest.1, leave state next.0 rest.1 rest.0 step rest.2, rest.3))
      next.2)
      (decides state)

  -- no walk leaves a goal
  ends : (state : S) (states : List S) (last : S) → game.IsGoal state → Walk (Step game policy) state states last → length states ≤ 0
  ends state states last goal (stay s) = omega arith
  ends state states last goal (leave s t u rest step walk) = absurd (step.open_ goal)

  -- where every action is unfair, no walk is longer than the rank of its first state
  pub walks_short : AllUnfair game → ActsEverywhere game policy → (state : S) (states : List S) (last : S) → Walk (Step game policy) state states last → Reach game policy state → length states ≤ rank state
  walks_short all acts state states last (stay s) reached = omega arith
  walks_short all acts state states last (leave s t u rest step walk) reached = ⊎_elim
      (λ goal. omega (arith, ends t rest u goal walk, ranking.some s reached step.open_))
      (λ less. omega (arith, walks_short all acts t rest u walk (onward s step.choice t reached step.open_ step.chosen step.next), less))
      (ranking.unfair s step.choice t reached step.open_ step.chosen (all s step.choice (applies game policy acts s step.choice reached step.open_ step.chosen)) step.next)
