use Rattle.std.proofs.Common.{◌≡◌, length}
use Rattle.fond_kinds.proofs.order.children_of.Given as goal

-- both lists have an entry for each number
abbrev pub invariant-loop-number : goal.invariant-loop-number
invariant-loop-number l = record {
  firsts : length l.firsts.items ≡ l.count;
  nexts : length l.nexts.items ≡ l.count;
}
