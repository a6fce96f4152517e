-- What can be found out about a policy, told by the numbers of listed states.
use Rattle.std.specs.Prelude.{◌≡◌, ◌⊎◌, ◌≤◌, ◌+◌, ℕ, List, [], ◌∷◌, ◌++◌, Some, Contains, length, map, slice_get}
use Rattle.fond_text.specs.Lists.{AreDistinct}
use Rattle.fond_state.specs.Games.{Game, Policy, Reach}
use Rattle.fond_games.specs.Walks.{Walk}
use Rattle.fond_games.specs.Lassos.{Step, Acts, Lasso}

-- listed states are those that a policy reaches, each once, and no more than a limit
pub record AreReached {S A : Type 0} (game : Game S A) (policy : Policy S A) (limit : ℕ) (listed : List S) : Type 0 where
  pub once : AreDistinct listed
  pub reached : (state : S) → Contains listed state → Reach game policy state
  pub all : (state : S) → Reach game policy state → Contains listed state
  pub few : length listed ≤ limit

-- numbers tell of states: each is the number of the state at its place in a list
abbrev pub Tell : {S : Type 0} → List S → List ℕ → List S → Type 0
Tell listed numbers states = map (slice_get listed) numbers ≡ map Some states

-- numbers tell of a run on which a policy gets stuck: a walk by its choices from the first state to one that is no goal and in which it
-- chooses no applicable action
pub record ShowsStuck {S A : Type 0} (game : Game S A) (policy : Policy S A) (listed : List S) (stem : List ℕ) : Type 0 where
  pub walked : List S
  pub last : S
  pub comes : Walk (Step game policy) game.first walked last
  pub open_ : ¬ game.IsGoal last
  pub none : ¬ Acts game policy last
  pub told : Tell listed stem (walked ++ last ∷ [])

-- numbers tell of a lasso: of its stem with the knot at its end, and of its closed walk, which begins and ends with the knot
pub record ShowsLasso {S A : Type 0} (game : Game S A) (policy : Policy S A) (listed : List S) (stem cycle : List ℕ) : Type 0 where
  pub lasso : Lasso game policy
  pub stem_told : Tell listed stem (lasso.stem ++ lasso.knot ∷ [])
  pub cycle_told : Tell listed cycle (lasso.loop ++ lasso.knot ∷ [])

-- a level tells the rank of a state: it is 1 for a goal, and one more than the rank for any other state
abbrev pub TellsRank : {S A : Type 0} → Game S A → (S → ℕ) → S → ℕ → Type 0
TellsRank game rank state level = (game.IsGoal state × (level ≡ 1)) ⊎ ((¬ game.IsGoal state) × (level ≡ rank state + 1))
