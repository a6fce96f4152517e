-- How what is found out about a policy is told, given how a state is written.
use Rattle.std.specs.Prelude.{◌≡◌, ℕ, List, [], ◌++◌, Contains, codes, length}
use Rattle.std.specs.Fmt.{decimal}
use Rattle.std.specs.List.{flat_map}
use Rattle.fond_text.specs.Lists.{AreDistinct}
use Rattle.fond_state.specs.Games.{Game, Policy, Reach, IsSolution}
use Rattle.fond_games.specs.Findings.{ShowsLasso, ShowsStuck}
use Rattle.fond_games.specs.Lassos.{ActsEverywhere}
use Rattle.fond_games.specs.Rankings.{IsLeastRanking}
use Rattle.fond_games.specs.Renaming.{FirstUsed}

-- states are those that a policy reaches and that are no goals, each once
pub record AreOpen {S A : Type 0} (game : Game S A) (policy : Policy S A) (states : List S) : Type 0 where
  pub once : AreDistinct states
  pub reached : (state : S) → Contains states state → Reach game policy state × (¬ game.IsGoal state)
  pub all : (state : S) → Reach game policy state → ¬ game.IsGoal state → Contains states state

-- the line of a word and numbers, each after a space
abbrev pub numbers_line : List ℕ → List ℕ → List ℕ
numbers_line word numbers = word ++ flat_map (λ number. codes " " ++ decimal number) numbers ++ codes "\n"

-- the text of a state with its rank
abbrev pub rank_text : {S : Type 0} → (S → List ℕ) → (S → ℕ) → S → List ℕ
rank_text show rank state = codes "rank " ++ decimal (rank state) ++ codes "\n" ++ show state

-- a text tells that a policy is a solution: each state that it reaches and that is no goal, with its rank by the least ranking
pub record TellsSolution {S A : Type 0} (game : Game S A) (show : S → List ℕ) (policy : Policy S A) (text : List ℕ) : Type 0 where
  pub solution : IsSolution game policy
  pub rank : S → ℕ
  pub least : IsLeastRanking game policy rank
  pub states : List S
  pub open_ : AreOpen game policy states
  pub told : text ≡ codes "solution\n" ++ flat_map (rank_text show rank) states

-- a text tells why a policy is no solution: it gets stuck on a run; or it acts in each reached state that is no goal, and has a lasso. The
-- states of the run or the lasso, which it reaches, are told once each, and are numbered in the order of their first use
pub data TellsNone {S A : Type 0} (game : Game S A) (show : S → List ℕ) (policy : Policy S A) : List ℕ → Type 0 where
  stuck : (listed : List S) (stem : List ℕ) → ¬ IsSolution game policy → ShowsStuck game policy listed stem → AreDistinct listed → ((state : S) → Contains listed state → Reach game policy state) → FirstUsed 0 stem (length listed)
      → TellsNone game show policy (codes "stuck\n" ++ flat_map show listed ++ numbers_line (codes "stem") stem)
  lasso : (listed : List S) (stem cycle : List ℕ) → ¬ IsSolution game policy → ActsEverywhere game policy → ShowsLasso game policy listed stem cycle → AreDistinct listed → ((state : S) → Contains listed state → Reach game policy state)
      → FirstUsed 0 (stem ++ cycle) (length listed)
      → TellsNone game show policy (codes "lasso\n" ++ flat_map show listed ++ numbers_line (codes "stem") stem ++ numbers_line (codes "cycle") cycle)
