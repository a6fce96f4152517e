-- Traps and solutions.
use Rattle.std.specs.Prelude.{List, Bool}
use Rattle.fond_state.specs.Games as games
use Rattle.fond_task.specs.declared.task.Task.{Task}
use Rattle.fond_task.specs.Policies.{Policy, game}

-- a state stays in a trap of a policy: it is reached and no goal, and the policy chooses an action in it of which each
-- next state is in the trap, or some next state if an opponent picks the outcome
abbrev pub StaysIn : Task → Policy → List (List Bool) → List Bool → Type 0
StaysIn task = games.StaysIn (game task)

-- a trap of a policy is a nonempty list of states that all stay in it
abbrev pub IsTrap : Task → Policy → List (List Bool) → Type 0
IsTrap task = games.IsTrap (game task)

-- a policy is a solution if it chooses an applicable action in each reached state that is no goal, and has no trap
abbrev pub IsSolution : Task → Policy → Type 0
IsSolution task = games.IsSolution (game task)

-- a task is solvable if some finite map is a solution
abbrev pub IsSolvable : Task → Type 0
IsSolvable task = games.IsSolvable (game task)
