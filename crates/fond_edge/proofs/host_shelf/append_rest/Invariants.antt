use Rattle.fond_edge.proofs.Reading.{Reading}
use Rattle.fond_edge.proofs.host_shelf.append_rest.Given as goal

abbrev pub invariant-loop-count : goal.invariant-loop-count
invariant-loop-count g l = Reading (g.F.Read.remaining l.initial.file) (g.F.Read.remaining l.file) l.initial.into.items l.into.items l.left

abbrev pub decreases-loop-count : goal.decreases-loop-count
decreases-loop-count g l = l.left
