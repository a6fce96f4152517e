use Rattle.std.proofs.Common.{◌+◌, ◌∙◌, map, drop, ap}
use Rattle.std.specs.Prelude.{fold}
use Rattle.fond_task.specs.Junctions.{joined}
use Rattle.fond_join.specs.Fixed.{fixed_value}
use Rattle.fond_join.proofs.Joined.{joined_next}
use Rattle.fond_join.proofs.fixed.+fixing.Goals as goal

pub members_value-loop-part-preserved : goal.members_value-loop-part-preserved
members_value-loop-part-preserved t c =
    let of = fixed_value c.args.bare.now in
    let i = c.loop-part.part-index in
    ap (λ v. fold (joined c.args.junction) v (map of (drop (i + 1) c.args.parts.now))) (c.joined-all.ensures ∙ ap (joined c.args.junction c.loop-part.all) c.fixed_value.ensures)
    ∙ joined_next c.args.junction of c.loop-part.all c.args.parts.now i c.part-item.result c.loop-part-test.true c.part-item.is
    ∙ c.loop-part.invariant
