use Rattle.fond_text.proofs.Adding.{adds_same, adds_then}
use Rattle.fond_graph.proofs.Literals.{edge_text}
use Rattle.fond_graph.proofs.edges.put_edge.Goals as goal

pub returns : goal.returns
returns c =
    adds_same _ _ _ _ (edge_text c.args.from c.args.outcome c.args.to)
    (adds_then _ _ _ _ _ c.add.ensures (adds_then _ _ _ _ _ c.add_number.ensures (adds_then _ _ _ _ _ c.add-2.ensures (adds_then _ _ _ _ _ c.add_number-2.ensures (adds_then _ _ _ _ _ c.add-3.ensures (adds_then _ _ _ _ _ c.add_number-3.ensures c.add-4.ensures))))))
