use Rattle.fond_games.specs.Visits.{IsTouring}
use Rattle.fond_games.proofs.tour.tour.Given as goal

abbrev pub invariant-loop-node : goal.invariant-loop-node
invariant-loop-node l = IsTouring l.graph l.knot l.node l.walk.items l.at
