use Rattle.std.proofs.Common.{◌≡◌, length}
use Rattle.fond_covering.specs.Full.{AreFullItems}
use Rattle.fond_covering.proofs.full.full_items.Given as goal

-- there is an item for each state so far
abbrev pub invariant-loop-number : goal.invariant-loop-number
invariant-loop-number l = record {
  long : length l.next ≡ length l.t.atoms;
  counted : length l.items ≡ l.number;
  full : AreFullItems l.t l.rules l.states l.items;
}
