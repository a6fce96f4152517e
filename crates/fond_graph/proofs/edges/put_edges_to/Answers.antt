use Rattle.std.proofs.Common.{ℕ, List, map}
use Rattle.std.specs.List.{enumerate_from}
use Rattle.std.proofs.lemmas.List.{at_drop_more}
use Rattle.serde_json.specs.Data.{Data}
use Rattle.fond_graph.specs.Drawings.{edge_data}
use Rattle.fond_graph.proofs.Listing.{listing_one}
use Rattle.fond_graph.proofs.edges.put_edges_to.Goals as goal

pub loop-outcome-preserved : goal.loop-outcome-preserved
loop-outcome-preserved c =
    let k = c.loop-outcome.outcome in
    let drawn : List ℕ → List Data = λ nexts. map (λ item. edge_data c.args.from item.0 item.1) (enumerate_from k nexts) in
    listing_one _ _ _ _ _ _ c.loop-outcome.invariant _ _ _ _ _ (at_drop_more drawn c.as_slice-to-items.result.now k 0 c.loop-outcome-test.true) c.put_comma.ensures.comma c.put_comma.ensures.later c.put_edge.ensures
