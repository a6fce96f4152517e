use Rattle.fond_games.specs.Visits.{IsSeeking}
use Rattle.fond_games.proofs.tour.recurrent.Given as goal

abbrev pub invariant-loop-node : goal.invariant-loop-node
invariant-loop-node l = IsSeeking l.graph l.from l.knot l.back.items l.node
