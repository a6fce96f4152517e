use Rattle.std.proofs.Common.{◌≡◌, ◌-◌, ◌^◌, ◌≤◌, length}
use Rattle.fond_reach.proofs.Graphs.{IsBegun}
use Rattle.fond_reach.proofs.reached.walk_on.Given as goal

-- a walk that has made the nodes of the states before this number
abbrev pub invariant-loop-at : goal.invariant-loop-at
invariant-loop-at g l = record {
  long : length l.scratch.state ≡ length l.t.atoms;
  next_long : length l.scratch.next ≡ length l.t.atoms;
  done : l.at ≤ length l.states;
  counted : length l.nodes.items ≡ l.at;
  begun : IsBegun l.t (g.C.Chooser.policy l.chooser) l.states l.nodes.items;
}

abbrev pub decreases-loop-at : goal.decreases-loop-at
decreases-loop-at g l = 2 ^ 32 - l.at
