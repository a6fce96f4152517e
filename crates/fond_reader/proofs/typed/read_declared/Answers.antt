use Rattle.fond_reader.specs.Sorts.{leaf_test}
use Rattle.fond_reader.proofs.Groups.{leaf_there}
use Rattle.fond_reader.proofs.Named.{no_node_of, sorted_at}
use Rattle.fond_reader.proofs.Through.{both_hold}
use Rattle.fond_reader.proofs.typed.read_declared.Goals as goal

pub read_leaf-requires : goal.read_leaf-requires
read_leaf-requires c = no_node_of (leaf_test c.args.sort) c.args.leaf.now (leaf_there c.args.sort c.args.leaf.now c.requires.leaf)

pub returns : goal.returns
returns c =
    both_hold _ _ (sorted_at (leaf_test c.args.sort) c.args.leaf.now _ _ (leaf_there c.args.sort c.args.leaf.now c.requires.leaf) c.in_ok-place.ensures.0 c.in_ok-place.ensures.1) c.in_ok-kinds.ensures
