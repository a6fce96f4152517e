use Rattle.std.proofs.Common.{◌+◌, ◌∙◌, ◌∷◌, List, ap, drop, sym}
use Rattle.std.specs.List.{enumerate_from, flat_map}
use Rattle.std.proofs.lemmas.List.{at_drop_more}
use Rattle.serde_json.specs.Data.{Data}
use Rattle.fond_reach.specs.declared.node.Node.{Node}
use Rattle.fond_graph.specs.Drawings.{edges_of}
use Rattle.fond_graph.proofs.Listing.{listing_more}
use Rattle.fond_graph.proofs.edges.put_edges.Goals as goal

pub loop-from-preserved : goal.loop-from-preserved
loop-from-preserved c =
    let k = c.loop-from.from in
    let nodes = c.args.nodes.now in
    let node = c.index-nodes-from.result in
    let drawn : List Node → List Data = λ more. flat_map (λ item. edges_of item.0 item.1) (enumerate_from k more) in
    listing_more _ _ _ _ _ _ c.loop-from.invariant _ _ _ _ (at_drop_more drawn nodes k node c.loop-from-test.true ∙ ap (λ one. drawn (one ∷ drop (k + 1) nodes)) (sym c.index-nodes-from.is))
    c.put_edges_of.ensures.edges c.put_edges_of.ensures.later
