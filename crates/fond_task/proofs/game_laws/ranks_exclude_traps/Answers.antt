use Rattle.fond_task.proofs.Ranks.{ranks_exclude}
use Rattle.fond_task.proofs.game_laws.ranks_exclude_traps.Goals as goal

pub returns : goal.returns
returns c = ranks_exclude
