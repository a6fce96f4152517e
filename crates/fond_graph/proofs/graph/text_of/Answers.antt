use Rattle.std.proofs.Common.{◌∙◌, List, false, length, ap, sym}
use Rattle.std.specs.List.{enumerate_from, flat_map}
use Rattle.std.proofs.lemmas.Slice.Zip.{AllZip-long}
use Rattle.fond_task.specs.Policies.{selected}
use Rattle.fond_task.proofs.Lists.{Contains_numbered}
use Rattle.fond_task.proofs.Reached.{reached_long}
use Rattle.fond_text.proofs.Adding.{adds_same, adds_then}
use Rattle.fond_reach.specs.Graphs.{IsNode}
use Rattle.fond_reach.specs.declared.node.Node.{Node}
use Rattle.fond_graph.specs.Drawings.{edges_of, nodes_data}
use Rattle.fond_graph.specs.Parts.{listed}
use Rattle.fond_graph.proofs.Listing.{finished}
use Rattle.fond_graph.proofs.Literals.{graph_text}
use Rattle.fond_graph.proofs.graph.text_of.Goals as goal

pub put_nodes-requires-clause-counted : goal.put_nodes-requires-clause-counted
put_nodes-requires-clause-counted c =
    let reached = c.args.reached.now in
    let drawn = c.requires.drawn in
    sym (ap length c.as_slice-2.ensures.value ∙ AllZip-long (IsNode c.args.t.now (selected c.args.rules.now) reached.states) reached.states reached.nodes.items drawn.told)

pub put_nodes-requires-clause-long : goal.put_nodes-requires-clause-long
put_nodes-requires-clause-long c =
    λ number state at. reached_long c.args.t.now (selected c.args.rules.now) state (c.requires.drawn.reached state (Contains_numbered c.args.reached.now.states number state at))

pub returns : goal.returns
returns c =
    let reached = c.args.reached.now in
    finished (λ bytes. bytes.items) c.finish.result _ _ _ c.new-text.ensures
    (adds_same _ _ _ _ (graph_text c.args.t.now c.args.rules.now reached.states reached.nodes.items)
    (adds_then _ _ _ _ _ c.add.ensures (adds_then _ _ _ _ _
    (adds_same _ _ _ _ (ap (λ (nodes : List Node). listed false (flat_map (λ item. edges_of item.0 item.1) (enumerate_from 0 nodes))) c.as_slice.ensures.value) c.put_edges.ensures)
    (adds_then _ _ _ _ _ c.add-2.ensures (adds_then _ _ _ _ _
    (adds_same _ _ _ _ (ap (λ (nodes : List Node). listed false (nodes_data c.args.t.now c.args.rules.now reached.states nodes)) c.as_slice-2.ensures.value) c.put_nodes.ensures)
    c.add-3.ensures)))))
    c.finish.ensures.ok
