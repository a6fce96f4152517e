use Rattle.std.proofs.Common.{ap, sym}
use Rattle.fond_text.proofs.Adding.{adds_same}
use Rattle.fond_graph.specs.Drawings.{edges_of}
use Rattle.fond_graph.specs.Parts.{listed}
use Rattle.fond_graph.proofs.edges.put_edges_of.Goals as goal

pub returns-in-Acts-clause-edges : goal.returns-in-Acts-clause-edges
returns-in-Acts-clause-edges c = adds_same _ _ _ _ (ap (λ node. listed c.args.later.now (edges_of c.args.from node)) (sym c.in-Acts.is)) c.put_edges_to.ensures.edges
