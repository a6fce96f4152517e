use Rattle.std.proofs.Common.{◌≡◌, length}
use Rattle.fond_explicit.specs.Answers.{IsReachable}
use Rattle.fond_draft.specs.Turns.{AreTurns}
use Rattle.fond_draft.proofs.replay.replay_on.Given as goal

-- the state is reachable, and the states so far are on the way
abbrev pub invariant-loop-step : goal.invariant-loop-step
invariant-loop-step l = record {
  reachable : IsReachable l.t l.t.init l.state;
  long : length l.next ≡ length l.t.atoms;
  turns : AreTurns l.t l.turns;
}
