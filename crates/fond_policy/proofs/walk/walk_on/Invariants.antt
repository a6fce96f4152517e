use Rattle.std.proofs.Common.{◌≡◌, ◌-◌, ◌^◌, ◌≤◌, length}
use Rattle.fond_policy.specs.Walks.{IsWalk, IsUnruledAmong}
use Rattle.fond_policy.proofs.walk.walk_on.Given as goal

-- a walk that has done the states before this number
abbrev pub invariant-loop-at : goal.invariant-loop-at
invariant-loop-at l = record {
  selector : l.selector ≡ l.rules;
  long : length l.scratch.state ≡ length l.t.atoms;
  next_long : length l.scratch.next ≡ length l.t.atoms;
  done : l.at ≤ length l.states;
  walk : IsWalk l.t l.rules l.states l.at;
  unruled : IsUnruledAmong l.t l.rules l.states l.at l.unruled;
}

abbrev pub decreases-loop-at : goal.decreases-loop-at
decreases-loop-at l = 2 ^ 32 - l.at
