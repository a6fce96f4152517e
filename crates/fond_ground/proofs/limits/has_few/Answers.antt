use Rattle.std.proofs.Common.{arith}
use Rattle.fond_ground.proofs.Powers.{counted_few}
use Rattle.fond_ground.proofs.limits.has_few.Goals as goal

pub returns-else-len-eq0 : goal.returns-else-len-eq0
returns-else-len-eq0 c =
    let some = c.if-len-eq0.false in
    let long = c.len.ensures in
    counted_few c.args.effect.now c.outcome_count.result c.outcome_count.ensures.count c.args.lists.now (omega (arith, some, long))
