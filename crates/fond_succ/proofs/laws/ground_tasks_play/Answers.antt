use Rattle.fond_succ.proofs.Between.{ground-tasks-play}
use Rattle.fond_succ.proofs.laws.ground_tasks_play.Goals as goal

pub returns : goal.returns
returns c = ground-tasks-play
