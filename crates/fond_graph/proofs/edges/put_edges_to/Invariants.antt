use Rattle.std.proofs.Common.{drop, map}
use Rattle.std.specs.List.{enumerate_from}
use Rattle.fond_graph.specs.Drawings.{edge_data}
use Rattle.fond_graph.proofs.Listing.{Listing}
use Rattle.fond_graph.proofs.edges.put_edges_to.Given as goal

abbrev pub invariant-loop-outcome : goal.invariant-loop-outcome
invariant-loop-outcome l =
    Listing l.initial.later l.initial.text (map (λ item. edge_data l.from item.0 item.1) (enumerate_from 0 l.to-items)) l.later l.text (map (λ item. edge_data l.from item.0 item.1) (enumerate_from l.outcome (drop l.outcome l.to-items)))
