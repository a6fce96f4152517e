use Rattle.fond_ast.proofs.Tuples.{tuples-lie-in-ranges}
use Rattle.fond_ast.proofs.laws.tuples_lie_in_ranges.Goals as goal

pub returns : goal.returns
returns c = tuples-lie-in-ranges
