-- Steps by a policy, lassos, and states in which a policy is stuck.
use Rattle.std.specs.Prelude.{◌≡◌, ℕ, ◌<◌, ◌≤◌, List, [], ◌∷◌, ◌++◌, Some, Contains, length}
use Rattle.fond_state.specs.Games.{Game, Policy, Reach}
use Rattle.fond_games.specs.Walks.{Walk, Follows}

-- a step by a policy leads from a state that is no goal to a next state of the action that the policy chooses in it
pub record Step {S A : Type 0} (game : Game S A) (policy : Policy S A) (state after : S) : Type 0 where
  pub open_ : ¬ game.IsGoal state
  pub choice : A
  pub chosen : policy state ≡ Some choice
  pub next : game.IsNext state choice after

-- a lasso of a policy is a walk by its choices from the first state to a knot, and a closed walk of at least one step
-- from there, in which each next state of a fair choice follows the state of the choice
pub record Lasso {S A : Type 0} (game : Game S A) (policy : Policy S A) : Type 0 where
  pub stem : List S
  pub knot : S
  pub loop : List S
  pub comes : Walk (Step game policy) game.first stem knot
  pub closes : Walk (Step game policy) knot loop knot
  pub moves : 0 < length loop
  pub fair : (state : S) (choice : A) (after : S) → Contains loop state → policy state ≡ Some choice → ¬ game.IsUnfair choice → game.IsNext state choice after → Follows (loop ++ knot ∷ []) state after

-- a policy acts in a state if it chooses an applicable action in it
abbrev pub Acts : {S A : Type 0} → Game S A → Policy S A → S → Type 0
Acts {S} {A} game policy state = (choice : A) × (policy state ≡ Some choice) × game.IsApplicable state choice

-- a policy acts in each reached state that is no goal
abbrev pub ActsEverywhere : {S A : Type 0} → Game S A → Policy S A → Type 0
ActsEverywhere {S} game policy = (state : S) → Reach game policy state → ¬ game.IsGoal state → Acts game policy state

-- a policy is stuck if it chooses no applicable action in some reached state that is no goal
pub record Stuck {S A : Type 0} (game : Game S A) (policy : Policy S A) : Type 0 where
  pub state : S
  pub reached : Reach game policy state
  pub open_ : ¬ game.IsGoal state
  pub none : ¬ Acts game policy state

-- each applicable action may lead to some state
abbrev pub AlwaysLeads : {S A : Type 0} → Game S A → Type 0
AlwaysLeads {S} {A} game = (state : S) (action : A) → game.IsApplicable state action → (after : S) × game.IsNext state action after

-- no action that is applicable somewhere is unfair
abbrev pub NoneUnfair : {S A : Type 0} → Game S A → Type 0
NoneUnfair {S} {A} game = (state : S) (action : A) → game.IsApplicable state action → ¬ game.IsUnfair action

-- every action that is applicable somewhere is unfair
abbrev pub AllUnfair : {S A : Type 0} → Game S A → Type 0
AllUnfair {S} {A} game = (state : S) (action : A) → game.IsApplicable state action → game.IsUnfair action

-- from each reached state a goal is in reach by choices of the policy
abbrev pub GoalsInReach : {S A : Type 0} → Game S A → Policy S A → Type 0
GoalsInReach {S} game policy = (state : S) → Reach game policy state → (states : List S) × (goal : S) × Walk (Step game policy) state states goal × game.IsGoal goal

-- a number bounds the lengths of all walks by choices of the policy from the first state
abbrev pub WalksBounded : {S A : Type 0} → Game S A → Policy S A → Type 0
WalksBounded {S} game policy = (bound : ℕ) × ((states : List S) (last : S) → Walk (Step game policy) game.first states last → length states ≤ bound)
