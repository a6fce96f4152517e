-- Games of one player against chance and an opponent: policies, what they reach, traps and solutions.
use Rattle.std.specs.Prelude.{◌≡◌, ℕ, ◌<◌, List, Option, Some, Contains, IsSome, length, ⊤}
use Rattle.fond_text.specs.Lists.{AreDistinct}

-- a game: its first state, its goals, and for each action where it is applicable, to which states it may lead, and
-- whether an opponent picks among them
pub record Game (S A : Type 0) : Type 1 where
  pub first : S
  pub IsGoal : S → Type 0
  pub IsApplicable : S → A → Type 0
  pub IsNext : S → A → S → Type 0
  pub IsUnfair : A → Type 0

-- a policy chooses an action in a state, or none
abbrev pub Policy : Type 0 → Type 0 → Type 0
Policy S A = S → Option A

-- a policy is a finite map if some list has each state in which it chooses
abbrev pub IsFiniteMap : {S A : Type 0} → Policy S A → Type 0
IsFiniteMap {S} policy = (states : List S) × ((state : S) → IsSome (policy state) → Contains states state)

-- the states at the end of a finite walk from the first state, which leaves no goal and takes allowed actions only
pub data Walked {S A : Type 0} (game : Game S A) (May : S → A → Type 0) : S → Type 0 where
  start : Walked game May game.first
  onward : (state : S) (action : A) (after : S) → Walked game May state → ¬ game.IsGoal state → May state action → game.IsNext state action after → Walked game May after

-- the states that a policy reaches: those of walks on which it chooses each action
abbrev pub Reach : {S A : Type 0} → Game S A → Policy S A → S → Type 0
Reach game policy = Walked game (λ state action. policy state ≡ Some action)

-- a state stays in a trap of a policy: it is reached and no goal, and the policy chooses an action in it of which each
-- next state is in the trap, or some next state if an opponent picks
pub record StaysIn {S A : Type 0} (game : Game S A) (policy : Policy S A) (trap : List S) (state : S) : Type 0 where
  pub reached : Reach game policy state
  pub open_ : ¬ game.IsGoal state
  pub choice : A
  pub chosen : policy state ≡ Some choice
  pub fair : ¬ game.IsUnfair choice → (after : S) → game.IsNext state choice after → Contains trap after
  pub unfair : game.IsUnfair choice → (after : S) × game.IsNext state choice after × Contains trap after

-- a trap of a policy is a nonempty list of states that all stay in it
pub record IsTrap {S A : Type 0} (game : Game S A) (policy : Policy S A) (trap : List S) : Type 0 where
  pub some : (state : S) × Contains trap state
  pub each : (state : S) → Contains trap state → StaysIn game policy trap state

-- a policy is a solution if it chooses an applicable action in each reached state that is no goal, and has no trap
pub record IsSolution {S A : Type 0} (game : Game S A) (policy : Policy S A) : Type 0 where
  pub acts : (state : S) → Reach game policy state → ¬ game.IsGoal state → (choice : A) × (policy state ≡ Some choice) × game.IsApplicable state choice
  pub free : (trap : List S) → ¬ IsTrap game policy trap

-- a game is solvable if some finite map is a solution
abbrev pub IsSolvable : {S A : Type 0} → Game S A → Type 0
IsSolvable {S} {A} game = (policy : Policy S A) × IsFiniteMap policy × IsSolution game policy

-- a policy reaches this many states: a list of that length has each reached state once, and no other
pub record ReachesCount {S A : Type 0} (game : Game S A) (policy : Policy S A) (count : ℕ) : Type 0 where
  pub states : List S
  pub once : AreDistinct states
  pub reached : (state : S) → Contains states state → Reach game policy state
  pub all : (state : S) → Reach game policy state → Contains states state
  pub counted : length states ≡ count

-- a policy reaches more than this many states: a list of distinct reached states is longer
pub record ReachesMore {S A : Type 0} (game : Game S A) (policy : Policy S A) (bound : ℕ) : Type 0 where
  pub states : List S
  pub once : AreDistinct states
  pub reached : (state : S) → Contains states state → Reach game policy state
  pub longer : bound < length states

-- more than this many states are reachable: a list of distinct states, each at the end of a walk by any actions, is
-- longer
pub record More {S A : Type 0} (game : Game S A) (bound : ℕ) : Type 0 where
  pub states : List S
  pub once : AreDistinct states
  pub reached : (state : S) → Contains states state → Walked game (λ one action. ⊤) state
  pub longer : bound < length states
