use Rattle.fond_state.specs.Games.{start}
use Rattle.fond_planner.proofs.planner.Planner.begin.Goals as goal

pub find-requires-clause-reachable : goal.find-requires-clause-reachable
find-requires-clause-reachable g c = start
