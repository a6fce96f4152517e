-- How many states a policy reaches, and whether it acts in each.
use Rattle.std.specs.Prelude.{◌≡◌, ◌<◌, ℕ, List, Bool, true, false, None}
use Rattle.fond_state.specs.Games as games
use Rattle.fond_task.specs.declared.task.Task.{Task}
use Rattle.fond_task.specs.declared.rule.Rule.{Rule}
use Rattle.fond_task.specs.Policies.{IsGoal, Policy, Reach, game, selected}
use Rattle.fond_task.specs.Certificates.{ReachesCount}

-- a policy of a task reaches more than this many states
abbrev pub ReachesMore : Task → Policy → ℕ → Type 0
ReachesMore task = games.ReachesMore (game task)

-- a policy reaches fewer than this many states
abbrev pub ReachesFewer : Task → Policy → ℕ → Type 0
ReachesFewer task policy bound = (count : ℕ) × ReachesCount task policy count × (count < bound)

-- the number of states that a policy reaches is not this one: it is larger, or it is smaller
abbrev pub IsMiscounted : Task → Policy → ℕ → Bool → Type 0
IsMiscounted task policy reach true = ReachesMore task policy reach
IsMiscounted task policy reach false = ReachesFewer task policy reach

-- a reached state is no goal, and no rule holds in it
pub record IsUnruled (task : Task) (rules : List Rule) (state : List Bool) : Type 0 where
  pub reached : Reach task (selected rules) state
  pub open_ : ¬ IsGoal task state
  pub none : selected rules state ≡ None
