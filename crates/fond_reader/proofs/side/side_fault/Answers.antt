use Rattle.std.proofs.Common.{◌∙◌, sym, arith}
use Rattle.fond_reader.proofs.SideNodes.{node_seen, leaf_seen}
use Rattle.fond_reader.proofs.Through.{left_at}
use Rattle.fond_reader.proofs.side.side_fault.Goals as goal
use Rattle.fond_reader.proofs.side.side_fault.Goals.{then-is_node, else-is_node}

pub loop-tree-preserved : goal.loop-tree-preserved
loop-tree-preserved c =
    let split = left_at c.args.trees.now c.loop-tree.tree-index c.tree-item.result (omega arith) c.tree-item.is in
    elim c.if-is_node.branch [
      | then-is_node w ↦
          rw w.first-is
          (node_seen c.args.trees.now _ _ c.tree-item.result split (sym c.is_node.ensures ∙ w.if-is_node.true) c.loop-tree.first w.first_fault.result w.earlier-first.result c.loop-tree.invariant
          w.first_fault.ensures.some w.first_fault.ensures.none w.earlier-first.ensures)
      | else-is_node w ↦ leaf_seen c.args.trees.now _ _ c.tree-item.result split (sym c.is_node.ensures ∙ w.if-is_node.false) c.loop-tree.first _ w.first-is c.loop-tree.invariant
    ]
