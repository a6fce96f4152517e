use Rattle.std.proofs.Common.{length}
use Rattle.fond_rules.specs.Select.{AreOver}
use Rattle.fond_shortest.proofs.making.Making.make_all.Given as goal

abbrev pub invariant-loop : goal.invariant-loop
invariant-loop l = AreOver (length l.t.atoms) l.rules
