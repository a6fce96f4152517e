use Rattle.std.proofs.Common.{ap, ◌∙◌}
use Rattle.fond_tree.specs.Roles.{is_term}
use Rattle.fond_tree.specs.Words.{is_variable}
use Rattle.fond_tree.proofs.FittingLeaves.{term_fits}
use Rattle.fond_reader.proofs.Named.{no_node_of, sorted_at, same_truth}
use Rattle.fond_reader.proofs.Through.{both_hold}
use Rattle.fond_reader.proofs.atom.read_term.Goals as goal

pub read_leaf-requires : goal.read_leaf-requires
read_leaf-requires c = no_node_of is_term c.args.tree.now (term_fits c.args.tree.now c.requires)

pub returns : goal.returns
returns c =
    both_hold _ _ (sorted_at is_term c.args.tree.now _ _ (term_fits c.args.tree.now c.requires) c.in_ok-place.ensures.0 c.in_ok-place.ensures.1)
    (same_truth _ _ (c.is_variable-variable.ensures ∙ ap is_variable c.bytes.ensures.value))
