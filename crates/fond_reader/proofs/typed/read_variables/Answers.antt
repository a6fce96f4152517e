use Rattle.fond_tree.proofs.FittingNodes.{variables_there}
use Rattle.fond_reader.proofs.Named.{node_of}
use Rattle.fond_reader.proofs.Variables.{variables_fit, variables_read}
use Rattle.fond_reader.proofs.typed.read_variables.Goals as goal

pub members_of-requires : goal.members_of-requires
members_of-requires c = let there = variables_there c.args.tree.now c.requires in node_of c.args.tree.now there.0 there.1

pub read_typed-requires : goal.read_typed-requires
read_typed-requires c = variables_fit c.args.tree.now _ c.requires c.members_of.ensures

pub returns : goal.returns
returns c = variables_read c.args.tree.now _ c.members_of.ensures _ c.read_typed.ensures
