-- Two games, if each state of the one stands for a state of the other and both have the same moves: a solution of least rank in the one
-- is one in the other.
use Rattle.std.proofs.Common.{◌≡◌, ◌≤◌, ℕ, ap, sym, ◌∙◌, subst}
use Rattle.fond_state.specs.Games.{Game, Policy}
use Rattle.fond_games.specs.Lassos.{ActsEverywhere}
use Rattle.fond_games.specs.Ranks.{HasRank, IsBest}
use Rattle.fond_succ.proofs.Bridges.{Correspond, IsBridge, Naming, solution_down, solution_up}
use Rattle.fond_succ.proofs.Maps.{restricted, restricted_corresponds, restricted_finite}
use Rattle.fond_succ.proofs.Shown.{back_to, ranking_down, ranking_up}

module _ {S A V N : Type 0} (names : Naming S A V N) (lifted : Game S A) (ground : Game V N) (bridge : IsBridge names lifted ground) where
  goal_down : ground.IsGoal ground.first → lifted.IsGoal lifted.first
  goal_down goal = subst lifted.IsGoal bridge.first ((bridge.goal ground.first bridge.first_fits).0 goal)

  goal_up : lifted.IsGoal lifted.first → ground.IsGoal ground.first
  goal_up goal = (bridge.goal ground.first bridge.first_fits).1 (subst lifted.IsGoal (sym bridge.first) goal)

  module _ (choices : Policy V N) (policy : Policy S A) (agrees : Correspond names choices policy) (acts : ActsEverywhere ground choices) (rank : ℕ) where
    back_first : names.back lifted.first ≡ ground.first
    back_first = back_to names lifted ground bridge choices policy agrees lifted.first ground.first bridge.first_fits (sym bridge.first)

    rank_down : HasRank ground choices rank → HasRank lifted policy rank
    rank_down has = record {
      at_goal = λ goal. has.at_goal (goal_up goal);
      given = λ open_.
          let got = has.given (λ goal. open_ (goal_down goal)) in
          ((λ s. got.0 (names.back s)), ranking_down names lifted ground bridge choices policy agrees acts got.0 got.1, ap got.0 back_first ∙ got.2);
      least = λ ranking open_ is.
          let most = has.least (λ v. ranking (names.stands v)) (λ goal. open_ (goal_down goal)) (ranking_up names lifted ground bridge choices policy agrees acts ranking is) in
          subst (λ s. rank ≤ ranking s) bridge.first most;
    }

  pub best_down : (choices : Policy V N) (policy : Policy S A) (agrees : Correspond names choices policy) (rank : ℕ) → IsBest ground choices rank → IsBest lifted policy rank
  best_down choices policy agrees rank best = record {
    solves = solution_down names lifted ground bridge choices policy agrees best.solves;
    ranked = rank_down choices policy agrees best.solves.acts rank best.ranked;
    least = λ map ranking finite solution open_ is.
        let own = restricted names map in
        let alike = restricted_corresponds names lifted ground bridge map in
        let solves = solution_up names lifted ground bridge own map alike solution in
        let most = best.least own (λ v. ranking (names.stands v)) (restricted_finite names lifted ground bridge map finite) solves (λ goal. open_ (goal_down goal)) (ranking_up names lifted ground bridge own map alike solves.acts ranking is) in
        subst (λ s. rank ≤ ranking s) bridge.first most;
  }
