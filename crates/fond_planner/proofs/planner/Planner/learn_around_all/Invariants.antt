use Rattle.fond_planner.specs.Planners.{Keeps}
use Rattle.fond_planner.proofs.planner.Planner.learn_around_all.Given as goal

-- the planner goes on from the one at the start
abbrev pub invariant-loop-number : goal.invariant-loop-number
invariant-loop-number g l = Keeps l.initial.self l.self
