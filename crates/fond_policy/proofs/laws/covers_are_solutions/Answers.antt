use Rattle.fond_policy.proofs.Covered.{covers_solve}
use Rattle.fond_policy.proofs.laws.covers_are_solutions.Goals as goal

pub returns : goal.returns
returns c = covers_solve
