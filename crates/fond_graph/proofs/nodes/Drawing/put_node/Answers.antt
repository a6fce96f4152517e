use Rattle.fond_text.proofs.Adding.{adds_same, adds_then}
use Rattle.fond_graph.proofs.Literals.{node_text}
use Rattle.fond_graph.proofs.nodes.Drawing.put_node.Goals as goal

pub returns : goal.returns
returns c =
    adds_same _ _ _ _ (node_text c.args.self.now.task.now c.args.self.now.rules.now c.args.state.now c.args.node.now)
    (adds_then _ _ _ _ _ c.add.ensures (adds_then _ _ _ _ _ c.put_atoms.ensures (adds_then _ _ _ _ _ c.add-2.ensures (adds_then _ _ _ _ _ c.put_goal.ensures (adds_then _ _ _ _ _ c.add-3.ensures (adds_then _ _ _ _ _ c.put_rule.ensures c.add-4.ensures))))))
