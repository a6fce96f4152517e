use Rattle.fond_planner.specs.Planners.{Keeps}
use Rattle.fond_draft.specs.Turns.{AreReachable}
use Rattle.fond_planner.proofs.planner.Planner.seek_all.Given as goal

-- the planner goes on from the one at the start, and the waiting states are reachable
abbrev pub invariant-loop-seek : goal.invariant-loop-seek
invariant-loop-seek g l = Keeps l.initial.self l.self × AreReachable l.self.task.now l.waiting.items
