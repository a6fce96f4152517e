use Rattle.fond_succ.proofs.Between.{stands-is-injective}
use Rattle.fond_succ.proofs.laws.stands_is_injective.Goals as goal

pub returns : goal.returns
returns c = stands-is-injective
