use Rattle.std.proofs.Common.{length, ap, arith}
use Rattle.fond_rules.proofs.ordered.Ordered.new.Goals as goal

pub invariant_of-result : goal.invariant_of-result
invariant_of-result g c = (omega (arith, ap length c.new.ensures.items), c.new-2.ensures _)
