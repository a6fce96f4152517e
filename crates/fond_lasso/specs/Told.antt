-- What is told about a policy of a ground task.
use Rattle.std.specs.Prelude.{ℕ}
use Rattle.fond_task.specs.declared.task.Task.{Task}
use Rattle.fond_task.specs.Policies.{Policy, game}
use Rattle.fond_task.specs.Texts.{state_text}
use Rattle.fond_policy.specs.Counts.{ReachesMore}
use Rattle.fond_games.specs.Told.{TellsNone, TellsSolution}
use Rattle.fond_lasso.specs.declared.tell.Told.{Told}
use Rattle.fond_lasso.specs.declared.tell.Told.TheVariants.{Solution, NoSolution, Spent}

-- a policy is told to be a solution, or to be none, and no more states are reached than a limit; or more are
abbrev pub IsTold : Task → Policy → ℕ → Told → Type 0
IsTold task policy limit (Solution text) = TellsSolution (game task) (state_text task) policy text.items × (¬ ReachesMore task policy limit)
IsTold task policy limit (NoSolution text) = TellsNone (game task) (state_text task) policy text.items × (¬ ReachesMore task policy limit)
IsTold task policy limit Spent = ReachesMore task policy limit
