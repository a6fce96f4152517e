use Rattle.fond_check.proofs.Accepted.{right_accepted}
use Rattle.fond_check.proofs.laws.right_are_accepted.Goals as goal

pub returns : goal.returns
returns c = right_accepted
