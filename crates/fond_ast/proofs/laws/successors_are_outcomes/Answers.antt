use Rattle.fond_ast.proofs.Once.{successors-are-outcomes}
use Rattle.fond_ast.proofs.laws.successors_are_outcomes.Goals as goal

pub returns : goal.returns
returns c = successors-are-outcomes
