-- What becomes of a state that is sought.
use Rattle.std.specs.Prelude.{⊤}
use Rattle.fond_task.specs.declared.task.Task.{Task}
use Rattle.fond_explicit.specs.Answers.{IsReachable}
use Rattle.fond_planner.specs.declared.seek.Sought.{Sought}
use Rattle.fond_planner.specs.declared.seek.Sought.TheVariants.{Known, After, GaveUp}

-- if another state has to be sought before, it is reachable; of the other answers nothing is said
abbrev pub IsSought : Task → Sought → Type 0
IsSought task Known = ⊤
IsSought task (After state) = IsReachable task task.init state
IsSought task GaveUp = ⊤
