use Rattle.fond_tree.proofs.Short.{short_if_read}
use Rattle.fond_tree.proofs.laws.read_trees_are_short.Goals as goal

pub returns : goal.returns
returns c = short_if_read
