use Rattle.fond_succ.proofs.Between.{ground-tasks-agree}
use Rattle.fond_succ.proofs.laws.ground_tasks_agree.Goals as goal

pub returns : goal.returns
returns c = ground-tasks-agree
