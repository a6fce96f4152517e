use Rattle.fond_laws.proofs.Accepted.{planned}
use Rattle.fond_laws.proofs.replies.planned_are_accepted.Goals as goal

pub returns : goal.returns
returns c = planned
