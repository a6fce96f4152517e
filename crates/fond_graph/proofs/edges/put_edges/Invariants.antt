use Rattle.std.proofs.Common.{drop, false}
use Rattle.std.specs.List.{enumerate_from, flat_map}
use Rattle.fond_graph.specs.Drawings.{edges_of}
use Rattle.fond_graph.proofs.Listing.{Listing}
use Rattle.fond_graph.proofs.edges.put_edges.Given as goal

abbrev pub invariant-loop-from : goal.invariant-loop-from
invariant-loop-from l =
    Listing false l.initial.text (flat_map (λ item. edges_of item.0 item.1) (enumerate_from 0 l.nodes)) l.later l.text (flat_map (λ item. edges_of item.0 item.1) (enumerate_from l.from (drop l.from l.nodes)))
