use Rattle.std.proofs.Common.{ap, ◌∙◌}
use Rattle.fond_tree.specs.Words.{is_name}
use Rattle.fond_tree.proofs.FittingLeaves.{name_fits}
use Rattle.fond_tree.proofs.FittingNodes.{predicate_there}
use Rattle.fond_tree.proofs.Heads.{predicate_fits}
use Rattle.fond_reader.specs.Files.{are_of_declared}
use Rattle.fond_reader.proofs.Named.{headed_of, no_node_of, sorted_at}
use Rattle.fond_reader.proofs.Through.{both_hold}
use Rattle.fond_reader.proofs.initial.read_predicate.Goals as goal

pub head_and_rest-requires : goal.head_and_rest-requires
head_and_rest-requires c = let node = predicate_there c.args.tree.now c.requires in headed_of c.args.tree.now node.head node.after node.whole

pub read_leaf-requires : goal.read_leaf-requires
read_leaf-requires c = no_node_of is_name _ (name_fits _ (predicate_fits c.args.tree.now _ _ c.requires c.head_and_rest.ensures).0)

pub read_typed-requires : goal.read_typed-requires
read_typed-requires c = (predicate_fits c.args.tree.now _ _ c.requires c.head_and_rest.ensures).1

pub returns : goal.returns
returns c =
    let named = sorted_at is_name _ _ _ (name_fits _ (predicate_fits c.args.tree.now _ _ c.requires c.head_and_rest.ensures).0) c.in_ok-place.ensures.0 c.in_ok-place.ensures.1 in
    ap (are_of_declared (record { place = c.in_ok-place.place; name = c.in_ok-place.name; parameters = c.in_ok-parameters.parameters })) c.head_and_rest.ensures ∙ both_hold _ _ named c.in_ok-parameters.ensures
