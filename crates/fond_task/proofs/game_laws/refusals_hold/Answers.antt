use Rattle.fond_task.proofs.Forced.{refusals_exclude}
use Rattle.fond_task.proofs.game_laws.refusals_hold.Goals as goal

pub returns : goal.returns
returns c = refusals_exclude
