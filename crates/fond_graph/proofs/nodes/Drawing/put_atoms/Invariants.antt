use Rattle.std.proofs.Common.{drop, map, false}
use Rattle.serde_json.specs.Data.{string}
use Rattle.fond_graph.specs.Drawings.{true_texts}
use Rattle.fond_graph.proofs.Remaining.{texts_from}
use Rattle.fond_graph.proofs.Listing.{Listing}
use Rattle.fond_graph.proofs.nodes.Drawing.put_atoms.Given as goal

abbrev pub invariant-loop-atom : goal.invariant-loop-atom
invariant-loop-atom l =
    Listing false l.initial.text (map string (true_texts l.self.task.now l.state)) l.later l.text (map string (texts_from l.self.task.now l.state l.atom (drop l.atom l.self.task.now.atoms)))
