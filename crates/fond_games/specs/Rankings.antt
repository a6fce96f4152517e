-- Rankings: bounds on how many lucky steps a policy needs until it is at a goal.
use Rattle.std.specs.Prelude.{◌≡◌, ◌⊎◌, ℕ, ◌<◌, ◌≤◌, Some}
use Rattle.fond_state.specs.Games.{Game, Policy, Reach}

-- a state is a goal, or has a rank below this one
abbrev pub IsNearer : {S A : Type 0} → Game S A → (S → ℕ) → ℕ → S → Type 0
IsNearer game rank bound state = game.IsGoal state ⊎ (rank state < bound)

-- a ranking gives each reached state that is no goal a number of at least 1, such that a fair choice in it may lead to a goal or to
-- a state of smaller rank, and an unfair choice leads to no others
pub record IsRanking {S A : Type 0} (game : Game S A) (policy : Policy S A) (rank : S → ℕ) : Type 0 where
  pub some : (state : S) → Reach game policy state → ¬ game.IsGoal state → 0 < rank state
  pub fair : (state : S) (choice : A) → Reach game policy state → ¬ game.IsGoal state → policy state ≡ Some choice → ¬ game.IsUnfair choice → (after : S) × game.IsNext state choice after × IsNearer game rank (rank state) after
  pub unfair : (state : S) (choice : A) (after : S) → Reach game policy state → ¬ game.IsGoal state → policy state ≡ Some choice → game.IsUnfair choice → game.IsNext state choice after → IsNearer game rank (rank state) after

-- a ranking is the least if no other gives a reached state that is no goal a smaller number
pub record IsLeastRanking {S A : Type 0} (game : Game S A) (policy : Policy S A) (rank : S → ℕ) : Type 0 where
  pub is_ranking : IsRanking game policy rank
  pub least : (other : S → ℕ) → IsRanking game policy other → (state : S) → Reach game policy state → ¬ game.IsGoal state → rank state ≤ other state
