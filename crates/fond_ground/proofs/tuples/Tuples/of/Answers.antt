use Rattle.std.proofs.Common.{◌≡◌, replicate, length, rules}
use Rattle.fond_ground.proofs.Odometer.{all-lists}
use Rattle.fond_ground.proofs.tuples.Tuples.of.Goals as goal

pub returns : goal.returns
returns c =
    let zeros : c.in_ok-vec.field-0.items ≡ replicate (length c.args.ranges.now) 0 = search rules in
    all-lists c.args.ranges.now c.in_ok-vec.field-0.items c.has_empty.result zeros c.has_empty.ensures
