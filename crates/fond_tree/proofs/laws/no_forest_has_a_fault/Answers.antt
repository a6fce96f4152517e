use Rattle.fond_tree.proofs.NoTree.{no_forest_has_a_fault_lem}
use Rattle.fond_tree.proofs.laws.no_forest_has_a_fault.Goals as goal

pub returns : goal.returns
returns c = no_forest_has_a_fault_lem
