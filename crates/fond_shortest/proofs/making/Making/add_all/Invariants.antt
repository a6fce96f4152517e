use Rattle.std.proofs.Common.{length}
use Rattle.fond_rules.specs.Select.{AreOver}
use Rattle.fond_shortest.proofs.making.Making.add_all.Given as goal

abbrev pub invariant-loop-one : goal.invariant-loop-one
invariant-loop-one l = AreOver (length l.t.atoms) l.rules
