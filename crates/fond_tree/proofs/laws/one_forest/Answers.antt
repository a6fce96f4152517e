use Rattle.fond_tree.proofs.OneTree.{one_forest_lem}
use Rattle.fond_tree.proofs.laws.one_forest.Goals as goal

pub returns : goal.returns
returns c = one_forest_lem
