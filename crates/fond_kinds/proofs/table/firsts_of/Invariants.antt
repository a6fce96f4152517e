use Rattle.fond_kinds.proofs.Numbers.{AreFirsts}
use Rattle.fond_kinds.proofs.table.firsts_of.Given as goal

abbrev pub invariant-loop-i : goal.invariant-loop-i
invariant-loop-i l = AreFirsts l.types l.firsts.items l.i
