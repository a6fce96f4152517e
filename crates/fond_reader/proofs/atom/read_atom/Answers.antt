use Rattle.fond_tree.specs.Words.{is_name}
use Rattle.fond_tree.proofs.FittingLeaves.{name_fits}
use Rattle.fond_tree.proofs.FittingNodes.{atom_there}
use Rattle.fond_tree.proofs.Heads.{atom_fits}
use Rattle.fond_reader.proofs.Named.{headed_of, no_node_of, sorted_at, atom_read}
use Rattle.fond_reader.proofs.atom.read_atom.Goals as goal

pub head_and_rest-requires : goal.head_and_rest-requires
head_and_rest-requires c = let node = atom_there c.args.tree.now c.requires in headed_of c.args.tree.now node.head node.after node.whole

pub read_leaf-requires : goal.read_leaf-requires
read_leaf-requires c = no_node_of is_name _ (name_fits _ (atom_fits c.args.tree.now _ _ c.requires c.head_and_rest.ensures).0)

pub read_terms-requires : goal.read_terms-requires
read_terms-requires c = (atom_fits c.args.tree.now _ _ c.requires c.head_and_rest.ensures).1

pub returns : goal.returns
returns c =
    let named = sorted_at is_name _ _ _ (name_fits _ (atom_fits c.args.tree.now _ _ c.requires c.head_and_rest.ensures).0) c.in_ok-head.ensures.0 c.in_ok-head.ensures.1 in
    atom_read _ _ _ _ c.args.tree.now _ _ c.head_and_rest.ensures c.place.ensures named c.in_ok-read_terms.ensures
