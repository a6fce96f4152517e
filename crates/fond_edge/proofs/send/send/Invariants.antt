use Rattle.std.proofs.Common.{◌≤◌, length}
use Rattle.fond_edge.proofs.Progress.{Progress}
use Rattle.fond_edge.proofs.send.send.Given as goal

abbrev pub invariant-loop-rest : goal.invariant-loop-rest
invariant-loop-rest g l = Progress (g.K.Sink.written l.initial.sink) (g.K.Sink.written l.sink) l.b l.rest × (g.K.Sink.faults l.initial.sink ≤ g.K.Sink.faults l.sink)

abbrev pub decreases-loop-rest : goal.decreases-loop-rest
decreases-loop-rest g l = length l.rest
