use Rattle.fond_laws.proofs.Accepted.{decided}
use Rattle.fond_laws.proofs.replies.small_tasks_are_decided.Goals as goal

pub returns : goal.returns
returns c = decided
