use Rattle.std.proofs.Common.{◌∙◌, ap, not, sym, arith}
use Rattle.fond_tree.specs.Trees.{is_node}
use Rattle.fond_reader.specs.Sides.{is_leaf}
use Rattle.fond_reader.proofs.Picked.{one_picked, none_more}
use Rattle.fond_reader.proofs.side.read_side_names.Goals as goal
use Rattle.fond_reader.proofs.side.read_side_names.Goals.{then-not-is_node+in_ok-read_side_name+in_ok-push, else-not-is_node}

pub loop-tree-preserved : goal.loop-tree-preserved
loop-tree-preserved c =
    elim c.if-not-is_node.branch [
      | then-not-is_node+in_ok-read_side_name+in_ok-push w ↦
          one_picked is_leaf (λ tree. not (is_node tree)) c.args.trees.now c.loop-tree.tree-index c.tree-item.result (omega arith) c.tree-item.is _ _ _ (w.names-is ∙ w.in_ok-push.ensures.ok)
          (ap not (sym c.is_node.ensures ∙ w.if-not-is_node.true)) c.loop-tree.invariant w.in_ok-read_side_name.ensures
      | else-not-is_node w ↦
          none_more is_leaf (λ tree. not (is_node tree)) c.args.trees.now c.loop-tree.tree-index c.tree-item.result (omega arith) c.tree-item.is _ _ w.names-is
          (ap not (sym c.is_node.ensures ∙ w.if-not-is_node.false)) c.loop-tree.invariant
    ]
