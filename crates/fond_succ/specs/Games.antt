-- The game of a ground task is that of its task.
use Rattle.std.specs.Prelude.{◌≡◌, ◌↔◌, ℕ, Bool, List, Option, Some, length, option_map, slice_get}
use Rattle.fond_text.specs.declared.atom.GroundAction.{GroundAction}
use Rattle.fond_ast.specs.declared.task.LiftedTask.{LiftedTask}
use Rattle.fond_ast.specs.States.{State}
use Rattle.fond_ast.specs.Solutions as lifted
use Rattle.fond_task.specs.Policies as ground
use Rattle.fond_task.specs.declared.task.Task.{Task}
use Rattle.fond_succ.specs.Stands.{stands}

-- the action of this number
abbrev pub action_of : Task → ℕ → Option GroundAction
action_of game number = option_map (λ act. act.ground) (slice_get game.acts number)

-- truth values are as many as a ground task has atoms
abbrev pub IsState : Task → List Bool → Type 0
IsState game values = length values ≡ length game.atoms

-- a ground task plays the game of a task. Its initial state stands for the initial one; a state is a goal if and only if the
-- one for which it stands is; an action is applicable in a state if and only if it is in the one for which the state stands;
-- the applicable ones are those of both, so an action without a number is applicable in none; the states to which an action may lead stand for those to which it
-- may lead in the task, and for all of them; and the same actions are unfair
pub record PlaysGameOf (task : LiftedTask) (game : Task) : Type 0 where
  pub first : stands task game.init ≡ lifted.initial task
  pub goal : (values : List Bool) → IsState game values → ground.IsGoal game values ↔ lifted.IsGoal task (stands task values)
  pub applicable : (values : List Bool) (number : ℕ) (action : GroundAction) → IsState game values → action_of game number ≡ Some action
      → ground.IsApplicable game values number ↔ lifted.IsApplicable task (stands task values) action
  pub numbered : (values : List Bool) (number : ℕ) → ground.IsApplicable game values number → (action : GroundAction) × (action_of game number ≡ Some action)
  pub kept : (values : List Bool) (action : GroundAction) → IsState game values → lifted.IsApplicable task (stands task values) action → (number : ℕ) × (action_of game number ≡ Some action)
  pub leads : (values : List Bool) (number : ℕ) (action : GroundAction) (next : List Bool) → IsState game values → action_of game number ≡ Some action
      → ground.IsNext game values number next → IsState game next × lifted.IsNext task (stands task values) action (stands task next)
  pub comes : (values : List Bool) (number : ℕ) (action : GroundAction) (state : State) → IsState game values → action_of game number ≡ Some action
      → lifted.IsNext task (stands task values) action state → (next : List Bool) × ground.IsNext game values number next × (state ≡ stands task next)
  pub unfair : (number : ℕ) (action : GroundAction) → action_of game number ≡ Some action → ground.IsUnfair game number ↔ lifted.IsUnfair task action
