use Rattle.fond_planner.specs.Planners.{Keeps}
use Rattle.fond_planner.proofs.planner.Planner.learn_around.Given as goal

-- the planner goes on from the one at the start
abbrev pub invariant-loop-cube : goal.invariant-loop-cube
invariant-loop-cube g l = Keeps l.initial.self l.self
