use Rattle.std.proofs.Common.{◌≡◌, length}
use Rattle.fond_planner.specs.Planners.{Keeps}
use Rattle.fond_draft.specs.Turns.{AreReachable}
use Rattle.fond_planner.proofs.planner.Planner.take_all.Given as goal

-- the planner goes on from the one at the start, and the states are reachable
abbrev pub invariant-loop-outcome : goal.invariant-loop-outcome
invariant-loop-outcome g l = record {
  keeps : Keeps l.initial.self l.self;
  reachable : AreReachable l.self.task.now l.states;
  state : l.step.state ≡ l.initial.step.state;
  act : l.step.act ≡ l.initial.step.act;
  long : length l.step.next ≡ length l.initial.step.next;
}
