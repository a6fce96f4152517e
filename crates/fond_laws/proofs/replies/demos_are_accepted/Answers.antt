use Rattle.fond_laws.proofs.Accepted.{shown}
use Rattle.fond_laws.proofs.replies.demos_are_accepted.Goals as goal

pub returns : goal.returns
returns c = shown
