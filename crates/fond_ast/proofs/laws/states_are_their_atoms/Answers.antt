use Rattle.fond_ast.proofs.Atoms.{states-are-their-atoms}
use Rattle.fond_ast.proofs.laws.states_are_their_atoms.Goals as goal

pub returns : goal.returns
returns c = states-are-their-atoms
