use Rattle.fond_laws.proofs.Accepted.{correct}
use Rattle.fond_laws.proofs.replies.correct_are_accepted.Goals as goal

pub returns : goal.returns
returns c = correct
