use Rattle.fond_planner.specs.Planners.{Keeps}
use Rattle.fond_planner.proofs.planner.Planner.learn_proposed.Given as goal

-- the planner goes on from the one at the start
abbrev pub invariant-loop-layer : goal.invariant-loop-layer
invariant-loop-layer g l = Keeps l.initial.self l.self
