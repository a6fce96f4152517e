use Rattle.std.proofs.Common.{◌≡◌, length}
use Rattle.fond_draft.specs.Turns.{AreTurns}
use Rattle.fond_planner.specs.Planners.{Keeps}
use Rattle.fond_planner.proofs.planner.Planner.make_turns.Given as goal

-- the planner goes on from the one at the start, the turns are those of its task, and the next state is over the atoms
abbrev pub invariant-loop-done : goal.invariant-loop-done
invariant-loop-done g l = record {
  keeps : Keeps l.initial.self l.self;
  turns : AreTurns l.self.task.now l.turns;
  long : length l.next ≡ length l.self.task.now.atoms;
}
