use Rattle.fond_tree.specs.Words.{is_name}
use Rattle.fond_tree.proofs.FittingLeaves.{name_fits}
use Rattle.fond_reader.proofs.Named.{no_node_of, sorted_at}
use Rattle.fond_reader.proofs.typed.read_kind.Goals as goal

pub read_leaf-requires : goal.read_leaf-requires
read_leaf-requires c = no_node_of is_name c.args.tree.now (name_fits c.args.tree.now c.requires)

pub returns : goal.returns
returns c = sorted_at is_name c.args.tree.now _ _ (name_fits c.args.tree.now c.requires) c.in_ok-place.ensures.0 c.in_ok-place.ensures.1
