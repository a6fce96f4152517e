use Rattle.std.proofs.Common.{◌≡◌, true}
use Rattle.fond_kinds.specs.Growth.{IsWalking, is_met, missing}
use Rattle.fond_kinds.proofs.grower.Grower.walk.Given as goal

abbrev pub invariant-loop-next : goal.invariant-loop-next
invariant-loop-next l = record {
  walking : IsWalking l.self l.path.items l.at;
  start : is_met l.self l.fn.start ≡ true;
  kept : l.self.parents.now ≡ l.fn.self.parents.now;
  done : l.self.done.items ≡ l.fn.self.done.items;
}

abbrev pub decreases-loop-next : goal.decreases-loop-next
decreases-loop-next l = missing l.self.seen.items
