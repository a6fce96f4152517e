use Rattle.fond_planner.specs.Planners.{Keeps}
use Rattle.fond_planner.specs.Walks.{IsTrail}
use Rattle.fond_planner.proofs.planner.Planner.follow_all.Given as goal

-- the planner goes on from the one at the start, and the trail is one of its task
abbrev pub invariant-loop-edge : goal.invariant-loop-edge
invariant-loop-edge g l = Keeps l.initial.self l.self × IsTrail l.self.task.now l.trail
