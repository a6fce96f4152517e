use Rattle.fond_tree.proofs.Pairs.{pairs_are_even}
use Rattle.fond_tree.proofs.expected.is_rest.Goals as goal

pub returns-in-Pairs : goal.returns-in-Pairs
returns-in-Pairs c = rw c.in-Pairs.is (pairs_are_even c.args.trees.now)
