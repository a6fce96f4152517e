-- The breadth-first walk through the states that a policy reaches.
use Rattle.std.specs.Prelude.{◌≡◌, ◌<◌, ◌≤◌, ℕ, List, ◌++◌, Bool, true, false, Option, Some, None, slice_get, length, Contains, IsSome, MatchBool, MatchOption}
use Rattle.fond_task.specs.declared.task.Task.{Task}
use Rattle.fond_task.specs.declared.rule.Rule.{Rule}
use Rattle.fond_task.specs.Policies.{IsGoal, IsNext, Reach, selected}
use Rattle.fond_task.specs.Certificates.{ReachesCount}
use Rattle.fond_policy.specs.declared.walk.Walked.{Walked}
use Rattle.fond_policy.specs.declared.walk.Walked.TheVariants.{More, All}
use Rattle.fond_policy.specs.Counts.{ReachesMore, IsUnruled}

-- states have become more at the end, and this holds of each that was added
abbrev pub Grows : (List Bool → Type 0) → List (List Bool) → List (List Bool) → Type 0
Grows Is old new = (more : List (List Bool)) × (new ≡ old ++ more) × ((state : List Bool) → Contains more state → Is state)

-- states have each state to which the rules lead from this one, unless it is a goal
abbrev pub IsClosed : Task → List Rule → List (List Bool) → List Bool → Type 0
IsClosed task rules states state = ¬ IsGoal task state → (act : ℕ) (after : List Bool) → selected rules state ≡ Some act → IsNext task state act after → Contains states after

-- a state is a goal, or a rule holds in it
abbrev pub IsRuled : Task → List Rule → List Bool → Type 0
IsRuled task rules state = ¬ IsGoal task state → IsSome (selected rules state)

-- a state was expanded: the states to which the rules lead from it were added, none if it is a goal, and it is told whether it is a
-- goal or a rule holds in it
pub record Expands (task : Task) (rules : List Rule) (state : List Bool) (old new : List (List Bool)) (ruled : Bool) : Type 0 where
  pub grows : Grows (λ after. (¬ IsGoal task state) × ((act : ℕ) × (selected rules state ≡ Some act) × IsNext task state act after)) old new
  pub closed : IsClosed task rules new state
  pub answer : MatchBool ruled (IsRuled task rules state) ((¬ IsGoal task state) × (selected rules state ≡ None))

-- the states of a walk are reached, the initial state is one of them, and for each of the first states, as many as are done, so are
-- the states to which the rules lead from it
pub record IsWalk (task : Task) (rules : List Rule) (states : List (List Bool)) (done : ℕ) : Type 0 where
  pub first : Contains states task.init
  pub reached : (state : List Bool) → Contains states state → Reach task (selected rules) state
  pub closed : (number : ℕ) (state : List Bool) → number < done → slice_get states number ≡ Some state → IsClosed task rules states state

-- the number of a reached state that is no goal and in which no rule holds; none only if there is no such state among the first, this
-- many
abbrev pub IsUnruledAmong : Task → List Rule → List (List Bool) → ℕ → Option ℕ → Type 0
IsUnruledAmong task rules states done found =
    MatchOption found ((number : ℕ) (state : List Bool) → number < done → slice_get states number ≡ Some state → IsRuled task rules state)
    (λ number. (state : List Bool) × (slice_get states number ≡ Some state) × IsUnruled task rules state)

-- the number of the first unruled state that is found, after one more state: this one's, if none was found before and it is not ruled
abbrev pub first_unruled : Bool → ℕ → Option ℕ → Option ℕ
first_unruled false number None = Some number
first_unruled ruled number found = found

-- the state of a number, if there is a number
abbrev pub IsNumbered : List (List Bool) → Option ℕ → Option (List Bool) → Type 0
IsNumbered states None found = found ≡ None
IsNumbered states (Some number) found = (state : List Bool) × (found ≡ Some state) × (slice_get states number ≡ Some state)

-- in each reached state that is no goal, a rule holds
abbrev pub HasAllRuled : Task → List Rule → Type 0
HasAllRuled task rules = (state : List Bool) → Reach task (selected rules) state → IsRuled task rules state

-- in some reached state that is no goal, no rule holds
abbrev pub HasUnruled : Task → List Rule → Type 0
HasUnruled task rules = (state : List Bool) × IsUnruled task rules state

-- a reached state in which no rule holds and which is no goal, if there is one
abbrev pub IsUnruledOne : Task → List Rule → Option (List Bool) → Type 0
IsUnruledOne task rules found = MatchOption found (HasAllRuled task rules) (IsUnruled task rules)

-- how a walk ends: more than the bound are reached, or this many are, with a state in which no rule holds, if there is one
abbrev pub IsWalked : Task → List Rule → ℕ → Walked → Type 0
IsWalked task rules bound More = ReachesMore task (selected rules) bound
IsWalked task rules bound (All count unruled) = ReachesCount task (selected rules) count × (count ≤ bound) × IsUnruledOne task rules unruled

-- whether a walk ended with all states that are reached
abbrev pub is_all : Walked → Bool
is_all More = false
is_all (All count unruled) = true

-- a walk that ended with all states has done each of its states
abbrev pub IsWholeWalk : Task → List Rule → List (List Bool) → Walked → Type 0
IsWholeWalk task rules states walked = is_all walked ≡ true → IsWalk task rules states (length states)
