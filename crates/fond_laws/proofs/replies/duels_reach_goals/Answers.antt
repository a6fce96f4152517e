use Rattle.fond_laws.proofs.Dueled.{duels_reach}
use Rattle.fond_laws.proofs.replies.duels_reach_goals.Goals as goal

pub returns : goal.returns
returns c = duels_reach
