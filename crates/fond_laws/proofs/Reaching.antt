-- Finite maps of a game whose parts are known reach finitely many states, and are characterized.
use Rattle.std.proofs.Common.{⊎_elim, ◌≡◌, ℕ, zero, suc, List, [], ◌∷◌, Bool, true, false, Option, Some, None, refl, sym, ap, ◌∙◌, subst}
use Rattle.std.specs.Prelude.{◌↔◌, ◌&&◌, ◌||◌, Contains, IsSome, cond, not}
use Rattle.std.specs.List.{list_any, flat_map}
use Rattle.std.proofs.lemmas.Bool.{cases_Bool, cond-false}
use Rattle.fond_state.specs.Games.{Game, Policy, Reach, IsFiniteMap, start, onward}
use Rattle.fond_games.specs.Finite.{IsFinite}
use Rattle.fond_games.specs.Lassos.{Step, AlwaysLeads}
use Rattle.fond_games.proofs.Decided.{found, ranked_solution, keeps_goals, bounds_walks}
use Rattle.fond_games.proofs.Lists.{or_cases, or_left, or_right, and_left, and_right, and_both, not_true, not_false, both_ways, any_has, any_from, passing, passing_from, passing_has, Contains-none, Contains-here, Contains-later}
use Rattle.fond_games.proofs.Ranked.{solution_ranked}
use Rattle.fond_games.proofs.Refuting.{refutes, fair_solution, unfair_solution}
use Rattle.fond_games.proofs.Stages.{stable}
use Rattle.fond_games.proofs.Walking.{step_of}
use Rattle.fond_ast.proofs.Members.{Contains-from_Member, Member-from_Contains, Member-flat_map}
use Rattle.fond_laws.specs.PolicyLaws.{IsCharacterized}
use Rattle.fond_laws.proofs.Known.{Known, test_of, test_decides}

-- the states that are those next to a state by an action
abbrev pub AreNexts : {S A : Type 0} → Game S A → S → A → List S → Type 0
AreNexts {S} game state action afters = (after : S) → game.IsNext state action after ↔ Contains afters after

-- the parts of a game are known
pub record IsKnown {S A : Type 0} (game : Game S A) : Type 0 where
  pub same : (state other : S) → Known (state ≡ other)
  pub goal : (state : S) → Known (game.IsGoal state)
  pub applicable : (state : S) (action : A) → Known (game.IsApplicable state action)
  pub unfair : (action : A) → Known (game.IsUnfair action)
  pub nexts : (state : S) (action : A) → (afters : List S) × AreNexts game state action afters

module _ {S A : Type 0} (game : Game S A) (known : IsKnown game) (policy : Policy S A) (map : IsFiniteMap policy) where
  abbrev afters_by : Option A → S → List S
  afters_by None state = []
  afters_by (Some choice) state = (known.nexts state choice).0

  -- the states to which the policy may lead from a state: none from a goal
  abbrev afters : S → List S
  afters state = cond (test_of (known.goal state)) [] (afters_by (policy state) state)

  afters_is : (state : S) (choice : A) → ¬ game.IsGoal state → policy state ≡ Some choice → afters state ≡ (known.nexts state choice).0
  afters_is state choice open_ chosen = cond-false _ _ _ (shut (test_of (known.goal state)) (test_decides (known.goal state)).0) ∙ ap (λ o. afters_by o state) chosen
    where
      shut : (b : Bool) → (b ≡ true → game.IsGoal state) → b ≡ false
      shut true is = absurd (open_ (is refl))
      shut false is = refl

  afters_step : (state after : S) → Contains (afters state) after → Step game policy state after
  afters_step state after = go (test_of (known.goal state)) refl (policy state) refl
    where
      go : (b : Bool) → test_of (known.goal state) ≡ b → (o : Option A) → policy state ≡ o → Contains (cond b [] (afters_by o state)) after → Step game policy state after
      go true is o at has = absurd (Contains-none after has)
      go false is None at has = absurd (Contains-none after has)
      go false is (Some choice) at has =
          step_of game policy state choice after (λ goal. both_ways (test_of (known.goal state)) ((test_decides (known.goal state)).1 goal) is) at (((known.nexts state choice).1 after).1 has)

  -- the states that may be reached: the first one, and those to which a choice may lead
  abbrev candidates : List S
  candidates = game.first ∷ flat_map afters map.0

  abbrev is_same : S → S → Bool
  is_same state other = test_of (known.same other state)

  abbrev comes_after : S → S → Bool
  comes_after after state = list_any (is_same after) (afters state)

  -- whether a state is reached in at most this many steps
  abbrev is_reached : ℕ → S → Bool
  is_reached zero state = is_same state game.first
  is_reached (suc k) state = is_reached k state || list_any (λ before. is_reached k before && comes_after state before) candidates

  reached_so : (k : ℕ) (state : S) → is_reached k state ≡ true → Reach game policy state
  reached_so zero state is = subst (Reach game policy) ((test_decides (known.same game.first state)).0 is) start
  reached_so (suc k) state is = ⊎_elim
      (λ earlier. reached_so k state earlier)
      (λ some.
      let one = any_has (λ before. is_reached k before && comes_after state before) candidates some in
      let next = any_has (is_same state) (afters one.0) (and_right (is_reached k one.0) (comes_after state one.0) one.2) in
      let step = afters_step one.0 next.0 next.1 in
      subst (Reach game policy) ((test_decides (known.same next.0 state)).0 next.2)
      (onward one.0 step.choice next.0 (reached_so k one.0 (and_left (is_reached k one.0) (comes_after state one.0) one.2)) step.open_ step.chosen step.next))
      (or_cases (is_reached k state) (list_any (λ before. is_reached k before && comes_after state before) candidates) is)

  abbrev is_missing : ℕ → S → Bool
  is_missing k state = not (is_reached k state)

  missing_before : (k : ℕ) (state : S) → is_missing (suc k) state ≡ true → is_missing k state ≡ true
  missing_before k state is = ⊎_elim
      (λ reached. absurd (both_ways (is_reached (suc k) state) (or_left (is_reached k state) _ reached) (not_true (is_reached (suc k) state) is)))
      (λ missing. not_false (is_reached k state) missing)
      (cases_Bool (is_reached k state))

  abbrev last : ℕ
  last = (stable is_missing missing_before candidates).0

  stays : (state : S) → Contains candidates state → is_reached (suc last) state ≡ true → is_reached last state ≡ true
  stays state has is = ⊎_elim
      (λ reached. reached)
      (λ missing. absurd (both_ways (is_reached (suc last) state) is (not_true (is_reached (suc last) state) ((stable is_missing missing_before candidates).1 state has (not_false (is_reached last state) missing)))))
      (cases_Bool (is_reached last state))

  first_reached : (k : ℕ) → is_reached k game.first ≡ true
  first_reached zero = (test_decides (known.same game.first game.first)).1 refl
  first_reached (suc k) = or_left (is_reached k game.first) _ (first_reached k)

  chooses : (o : Option A) (choice : A) → o ≡ Some choice → IsSome o
  chooses o choice chosen = subst IsSome (sym chosen) refl

  reached_all : (state : S) → Reach game policy state → Contains candidates state × (is_reached last state ≡ true)
  reached_all state start = (Contains-here game.first (flat_map afters map.0), first_reached last)
  reached_all state (onward before choice after reached open_ chosen next) =
      let earlier = reached_all before reached in
      let listed : Contains (afters before) after = subst (λ list. Contains list after) (sym (afters_is before choice open_ chosen)) (((known.nexts before choice).1 after).0 next) in
      let from : Contains map.0 before = map.1 before (chooses (policy before) choice chosen) in
      let has : Contains candidates after =
      Contains-later after game.first (flat_map afters map.0)
      (Contains-from_Member (flat_map afters map.0) after (Member-flat_map afters map.0 before after (Member-from_Contains map.0 before from) (Member-from_Contains (afters before) after listed))) in
      let comes : comes_after after before ≡ true = any_from (is_same after) (afters before) after listed ((test_decides (known.same after after)).1 refl) in
      let up : is_reached (suc last) after ≡ true =
      or_right (is_reached last after) _ (any_from (λ one. is_reached last one && comes_after after one) candidates before earlier.0 (and_both (is_reached last before) (comes_after after before) earlier.1 comes)) in
      (has, stays after has up)

  -- a finite map reaches finitely many states
  pub finite_reach : IsFinite game policy
  finite_reach = record {
    states = passing (is_reached last) candidates;
    reached = λ state has. reached_so last state (passing_has (is_reached last) candidates state has).1;
    all = λ state reached. (let at = reached_all state reached in passing_from (is_reached last) candidates state at.0 at.1);
    is_goal = λ state. test_of (known.goal state);
    goal = λ state. test_decides (known.goal state);
    is_applicable = λ state action. test_of (known.applicable state action);
    applicable = λ state action. test_decides (known.applicable state action);
    is_unfair = λ action. test_of (known.unfair action);
    unfair = λ action. test_decides (known.unfair action);
    nexts = λ state action. (known.nexts state action).0;
    listed = λ state action after is. ((known.nexts state action).1 after).0 is;
    lists = λ state action after has. ((known.nexts state action).1 after).1 has;
  }

  -- a finite map is characterized, where each applicable action leads to some state
  pub characterized : AlwaysLeads game → IsCharacterized game policy
  characterized leads = record {
    refuted = refutes game policy;
    found = found game policy finite_reach leads;
    ranked = ranked_solution game policy finite_reach;
    least = solution_ranked game policy finite_reach;
    cyclic = λ none. (
      λ solution. (solution.acts, keeps_goals game policy finite_reach none solution),
      λ given. fair_solution game policy none given.0 given.1,
    );
    strong = λ all. (
      λ solution. (solution.acts, bounds_walks game policy finite_reach all solution),
      λ given. unfair_solution game policy all given.0 given.1,
    );
  }
