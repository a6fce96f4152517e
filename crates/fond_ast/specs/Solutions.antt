-- The game of a task, and what its policies, traps and solutions are.
use Rattle.std.specs.Prelude.{◌≡◌, ℕ, List, [], Some, slice_get}
use Rattle.fond_state.specs.Games as games
use Rattle.fond_state.specs.Games.{Game}
use Rattle.fond_text.specs.declared.atom.GroundAction.{GroundAction}
use Rattle.fond_ast.specs.declared.task.LSchema.{LSchema}
use Rattle.fond_ast.specs.declared.task.LiftedTask.{LiftedTask}
use Rattle.fond_ast.specs.States.{State, atoms_of}
use Rattle.fond_ast.specs.Conditions.{Holds, IsTuple}
use Rattle.fond_ast.specs.Effects.{Change, Gives, after}
use Rattle.fond_ast.specs.Patterns.{IsUnfairWith}

-- the initial state has the initial atoms
abbrev pub initial : LiftedTask → State
initial task = atoms_of task.init

-- a state is a goal if the goal holds in it
abbrev pub IsGoal : LiftedTask → State → Type 0
IsGoal task state = Holds state [] task.goal

-- an action is applicable in a state: its schema is one of the task, its objects lie in the ranges of the parameters, and
-- the precondition holds
pub record IsApplicable (task : LiftedTask) (state : State) (action : GroundAction) : Type 0 where
  pub schema : LSchema
  pub numbered : slice_get task.schemas action.schema ≡ Some schema
  pub fits : IsTuple schema.ranges action.objects
  pub holds : Holds state action.objects schema.pre

-- a state may come next by an action: the action is applicable, and its effect may give a change that leads there
pub record IsNext (task : LiftedTask) (state : State) (action : GroundAction) (next : State) : Type 0 where
  pub schema : LSchema
  pub numbered : slice_get task.schemas action.schema ≡ Some schema
  pub fits : IsTuple schema.ranges action.objects
  pub holds : Holds state action.objects schema.pre
  pub change : Change
  pub gives : Gives state action.objects schema.effect change
  pub leads : next ≡ after state change

-- an action is unfair if the side list names its schema or has a pattern that fits it, and fair otherwise
pub record IsUnfair (task : LiftedTask) (action : GroundAction) : Type 0 where
  pub schema : LSchema
  pub numbered : slice_get task.schemas action.schema ≡ Some schema
  pub unfair : IsUnfairWith schema action.objects

-- the game of a task
abbrev pub game : LiftedTask → Game State GroundAction
game task = record {
  first = initial task;
  IsGoal = IsGoal task;
  IsApplicable = IsApplicable task;
  IsNext = IsNext task;
  IsUnfair = IsUnfair task;
}

-- a policy chooses a ground action in a state, or none
abbrev pub Policy : Type 0
Policy = games.Policy State GroundAction

-- the states that a policy reaches from the initial state, where no goal is left
abbrev pub Reach : LiftedTask → Policy → State → Type 0
Reach task = games.Reach (game task)

-- a trap of a policy: a nonempty list of reached states without a goal, in each of which the chosen action leads only into
-- the list if it is fair, and may lead into the list if it is unfair
abbrev pub IsTrap : LiftedTask → Policy → List State → Type 0
IsTrap task = games.IsTrap (game task)

-- a policy is a solution if it chooses an applicable action in each reached state that is no goal, and has no trap
abbrev pub IsSolution : LiftedTask → Policy → Type 0
IsSolution task = games.IsSolution (game task)

-- a task is solvable if some policy that is a finite map is a solution
abbrev pub IsSolvable : LiftedTask → Type 0
IsSolvable task = games.IsSolvable (game task)

-- more than this many states can be reached from the initial state, by any actions and where no goal is left
abbrev pub More : LiftedTask → ℕ → Type 0
More task = games.More (game task)
