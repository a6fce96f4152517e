use Rattle.std.proofs.Common.{◌∙◌, sym, arith}
use Rattle.fond_tree.specs.Trees.{is_node}
use Rattle.fond_reader.specs.Sides.{is_pattern}
use Rattle.fond_reader.proofs.Picked.{one_picked, none_more}
use Rattle.fond_reader.proofs.SideNodes.{node_fits}
use Rattle.fond_reader.proofs.side.read_patterns.Goals as goal
use Rattle.fond_reader.proofs.side.read_patterns.Goals.{then-is_node+in_ok-read_pattern+in_ok-push, else-is_node}

pub read_pattern-requires : goal.read_pattern-requires
read_pattern-requires c = node_fits c.args.trees.now c.loop-tree.tree-index c.tree-item.result (omega arith) c.tree-item.is (sym c.is_node.ensures ∙ c.if-is_node.true) c.requires

pub loop-tree-preserved : goal.loop-tree-preserved
loop-tree-preserved c =
    elim c.if-is_node.branch [
      | then-is_node+in_ok-read_pattern+in_ok-push w ↦
          one_picked is_pattern is_node c.args.trees.now c.loop-tree.tree-index c.tree-item.result (omega arith) c.tree-item.is _ _ _ (w.patterns-is ∙ w.in_ok-push.ensures.ok)
          (sym c.is_node.ensures ∙ w.if-is_node.true) c.loop-tree.invariant w.in_ok-read_pattern.ensures
      | else-is_node w ↦
          none_more is_pattern is_node c.args.trees.now c.loop-tree.tree-index c.tree-item.result (omega arith) c.tree-item.is _ _ w.patterns-is (sym c.is_node.ensures ∙ w.if-is_node.false) c.loop-tree.invariant
    ]
