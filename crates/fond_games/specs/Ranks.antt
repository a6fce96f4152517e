-- The rank of a policy: how many lucky steps it needs, at worst, until it is at a goal. It is meant for solutions.
use Rattle.std.specs.Prelude.{◌≡◌, ℕ, ◌≤◌}
use Rattle.fond_state.specs.Games.{Game, Policy, IsFiniteMap, IsSolution}
use Rattle.fond_games.specs.Rankings.{IsRanking}

-- a policy has this rank if it is the least number that one of its rankings gives the first state, or 0 if that state is a goal
pub record HasRank {S A : Type 0} (game : Game S A) (policy : Policy S A) (rank : ℕ) : Type 0 where
  pub at_goal : game.IsGoal game.first → rank ≡ 0
  pub given : ¬ game.IsGoal game.first → (ranking : S → ℕ) × IsRanking game policy ranking × (ranking game.first ≡ rank)
  pub least : (ranking : S → ℕ) → ¬ game.IsGoal game.first → IsRanking game policy ranking → rank ≤ ranking game.first

-- if the first state is no goal, each ranking of each solution that is a finite map gives it at least this number
abbrev pub NoneBelow : {S A : Type 0} → Game S A → ℕ → Type 0
NoneBelow {S} {A} game rank = (policy : Policy S A) (ranking : S → ℕ) → IsFiniteMap policy → IsSolution game policy → ¬ game.IsGoal game.first → IsRanking game policy ranking → rank ≤ ranking game.first

-- a policy is a solution of this rank, and no solution that is a finite map has a smaller one
pub record IsBest {S A : Type 0} (game : Game S A) (policy : Policy S A) (rank : ℕ) : Type 0 where
  pub solves : IsSolution game policy
  pub ranked : HasRank game policy rank
  pub least : NoneBelow game rank
