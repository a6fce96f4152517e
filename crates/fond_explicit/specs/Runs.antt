-- Runs of the fixpoint over the states of a space.
use Rattle.std.specs.Prelude.{◌≡◌, List, Bool, length}
use Rattle.fond_task.specs.declared.task.Task.{Task}
use Rattle.fond_fixpoint.specs.declared.fate.Fate.{Fate}
use Rattle.fond_explicit.specs.declared.space.Space.{Space}
use Rattle.fond_fixpoint.specs.Fates.{AreSettled}
use Rattle.fond_explicit.specs.Spaces.{AreGoals}

-- fates are settled for the goals of the task, and with them, if so wanted, the states that are not opened
pub record IsRun (task : Task) (space : Space) (hopeful : Bool) (fates : List Fate) : Type 0 where
  pub goals : List Bool
  pub whole : length goals ≡ length space.states
  pub goals_are : AreGoals task space.states space.opened hopeful goals
  pub settled : AreSettled goals space.moves fates
