use Rattle.std.proofs.Common.{sym}
use Rattle.fond_reader.proofs.TypeNames.{either_headed, either_names, either_read}
use Rattle.fond_tree.proofs.FittingNodes.{type_name}
use Rattle.fond_reader.proofs.typed.read_kinds.Goals as goal

pub read_one_kind-requires : goal.read_one_kind-requires
read_one_kind-requires c = type_name c.args.tree.now c.requires (sym c.if-not-is_node.ensures)

pub head_and_rest-requires : goal.head_and_rest-requires
head_and_rest-requires c = either_headed c.args.tree.now c.requires (sym c.if-not-is_node.ensures)

pub read_each_kind-requires : goal.read_each_kind-requires
read_each_kind-requires c = either_names c.args.tree.now _ _ c.requires (sym c.if-not-is_node.ensures) c.head_and_rest.ensures

pub returns : goal.returns
returns c = either_read c.args.tree.now _ _ c.requires (sym c.if-not-is_node.ensures) c.head_and_rest.ensures _ c.read_each_kind.ensures
