use Rattle.fond_laws.proofs.Accepted.{hopeless_refused}
use Rattle.fond_laws.proofs.replies.hopeless_tasks_are_refused.Goals as goal

pub returns : goal.returns
returns c = hopeless_refused
