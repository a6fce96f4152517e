use Rattle.fond_policy.proofs.Closed.{items_closed}
use Rattle.fond_policy.proofs.laws.items_are_closed.Goals as goal

pub returns : goal.returns
returns c = items_closed
