use Rattle.std.proofs.Common.{◌≡◌, ◌-◌, ◌^◌, length}
use Rattle.fond_planner.specs.Planners.{Keeps}
use Rattle.fond_draft.specs.Turns.{AreReachable}
use Rattle.fond_planner.proofs.planner.Planner.walk_on.Given as goal

-- the planner goes on from the one at the start, the states are reachable, and those of the step are over the atoms
abbrev pub invariant-loop-at : goal.invariant-loop-at
invariant-loop-at g l = record {
  keeps : Keeps l.initial.self l.self;
  reachable : AreReachable l.self.task.now l.states;
  state_long : length l.step.state ≡ length l.self.task.now.atoms;
  next_long : length l.step.next ≡ length l.self.task.now.atoms;
}

abbrev pub decreases-loop-at : goal.decreases-loop-at
decreases-loop-at g l = 2 ^ 32 - l.at
