use Rattle.fond_tree.proofs.OneTree.{one_tree_lem}
use Rattle.fond_tree.proofs.laws.one_tree.Goals as goal

pub returns : goal.returns
returns c = one_tree_lem
