use Rattle.std.proofs.Common.{drop, false}
use Rattle.fond_graph.specs.Drawings.{nodes_data}
use Rattle.fond_graph.proofs.Listing.{Listing}
use Rattle.fond_graph.proofs.nodes.Drawing.put_nodes.Given as goal

abbrev pub invariant-loop-number : goal.invariant-loop-number
invariant-loop-number l =
    Listing false l.initial.text (nodes_data l.self.task.now l.self.rules.now l.states l.nodes) l.later l.text (nodes_data l.self.task.now l.self.rules.now (drop l.number l.states) (drop l.number l.nodes))
