-- Opening states one by one.
use Rattle.std.specs.Prelude.{◌≡◌, ◌⊎◌, ℕ, ◌≤◌, List, [], ◌∷◌, ◌++◌, Bool, Option, Some, None, Contains, length, slice_get}
use Rattle.fond_text.specs.Lists.{AreDistinct}
use Rattle.fond_fixpoint.specs.Moves.{Move, IsLike}
use Rattle.fond_task.specs.declared.task.Act.{Act}
use Rattle.fond_task.specs.declared.task.Task.{Task}
use Rattle.fond_task.specs.Policies.{IsNext}
use Rattle.fond_explicit.specs.declared.space.Space.{Space}
use Rattle.fond_explicit.specs.Answers.{IsReachable}
use Rattle.fond_explicit.specs.Spaces.{HasMove, IsSpace}

-- a space is right from a state on
abbrev pub IsSpaceFrom : Task → List Bool → Space → Type 0
IsSpaceFrom task from space = IsSpace task from space.states space.moves space.opened

-- a state is kept under a number, as one more at the end if it was not kept
pub record IsKeptAs (old : List (List Bool)) (next : List Bool) (number : ℕ) (new : List (List Bool)) : Type 0 where
  pub numbered : slice_get new number ≡ Some next
  pub grown : (new ≡ old) ⊎ (new ≡ old ++ next ∷ [])

-- states are so many, are distinct, and lack this one
pub record IsFullWithout (budget : ℕ) (states : List (List Bool)) (next : List Bool) : Type 0 where
  pub once : AreDistinct states
  pub missing : ¬ Contains states next
  pub full : budget ≤ length states

-- a state is kept under a number, or there is no room for it
abbrev pub IsReached : ℕ → List (List Bool) → List Bool → List (List Bool) → Option ℕ → Type 0
IsReached budget old next new None = (new ≡ old) × IsFullWithout budget new next
IsReached budget old next new (Some number) = IsKeptAs old next number new

-- states have grown by some to which actions may lead from this state
pub record IsGrown (task : Task) (state : List Bool) (old new : List (List Bool)) : Type 0 where
  pub more : List (List Bool)
  pub added : new ≡ old ++ more
  pub each : (next : List Bool) → Contains more next → (number : ℕ) × IsNext task state number next

-- there is no room for a state to which an action may lead from this state
pub record IsFull (task : Task) (state : List Bool) (budget : ℕ) (states : List (List Bool)) : Type 0 where
  pub next : List Bool
  pub number : ℕ
  pub leads : IsNext task state number next
  pub lacks : IsFullWithout budget states next

-- a move is kept: it was added at the end, or there was one that differs from it at most in the action
abbrev pub IsMoveKept : List Move → List Move → Move → Type 0
IsMoveKept old new move = (new ≡ old ++ move ∷ []) ⊎ ((new ≡ old) × ((number : ℕ) × IsLike old number move.source move.unfair move.targets))

-- a part of opening this state: a space stays right if the state is reachable, and nothing in it is lost
pub record IsOpening (task : Task) (state : List Bool) (old new : Space) : Type 0 where
  pub keeps : (from : List Bool) → IsReachable task from state → IsSpaceFrom task from old → IsSpaceFrom task from new
  pub same : new.opened ≡ old.opened
  pub stays : (node : ℕ) (other : List Bool) → slice_get old.states node ≡ Some other → slice_get new.states node ≡ Some other
  pub moves_stay : (node : ℕ) (from : List Bool) (act : Act) → HasMove old.states old.moves node from act → HasMove new.states new.moves node from act
