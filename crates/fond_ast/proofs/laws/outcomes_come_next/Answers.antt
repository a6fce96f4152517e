use Rattle.fond_ast.proofs.Come.{outcomes-come-next}
use Rattle.fond_ast.proofs.laws.outcomes_come_next.Goals as goal

pub returns : goal.returns
returns c = outcomes-come-next
