use Rattle.std.proofs.Common.{arith}
use Rattle.fond_text.proofs.Digits.{at_most, count, padded}
use Rattle.fond_text.proofs.number.Digits.of.Goals as goal

pub write_digits-start-requires : goal.write_digits-start-requires
write_digits-start-requires c = (at_most c.args.n c.ranges.n.fits, omega arith)

pub invariant_of-result : goal.invariant_of-result
invariant_of-result c =
    let w = c.write_digits-start.ensures in
    (omega arith, count c.args.n _ _ w.start w.written w.before, padded c.args.n _ _ w.start w.written w.before)
