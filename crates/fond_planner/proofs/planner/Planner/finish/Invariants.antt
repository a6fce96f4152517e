use Rattle.std.proofs.Common.{◌-◌, ◌^◌}
use Rattle.fond_planner.specs.Planners.{IsPlannerOf}
use Rattle.fond_planner.proofs.planner.Planner.finish.Given as goal

-- the planner stays right, and is for the same task and budget
abbrev pub invariant-loop-items : goal.invariant-loop-items
invariant-loop-items g l = IsPlannerOf l.initial.self.task.now l.initial.self.budget l.self

abbrev pub decreases-loop-items : goal.decreases-loop-items
decreases-loop-items g l = 2 ^ 64 - l.achieved
