use Rattle.std.proofs.Common.{◌<◌, ◌∙◌, ap, get_or, length, map, subst, arith}
use Rattle.fond_join.specs.Agree.{Covers}
use Rattle.fond_join.proofs.Covering.{chosen, part_covers, some_row}
use Rattle.fond_join.proofs.Weights.{part_weight, total, weight, weight-And}
use Rattle.fond_join.proofs.candidates.+row_of.Goals as goal

pub row_of-requires : goal.row_of-requires
row_of-requires t c = (
  let lighter = part_weight c.deref-part-items.result.now c.loop-part.part-index c.part-item.result c.loop-part-test.true c.part-item.is in
      let heavy = ap weight c.in-And.is ∙ weight-And c.in-And.parts in
      let parts = ap (λ items. total (map weight items)) c.deref-part-items.ensures.value in
      omega arith,
  tt,
)

pub loop-part-preserved : goal.loop-part-preserved
loop-part-preserved t c =
    let task = c.args.facts.now.task.now in
    let env = c.args.scope.now.env.items in
    let i = c.loop-part.part-index in
    let same = c.deref-part-items.ensures.value in
    let part = c.part-item.result in
    let whole = Covers task c.args.condition.now env c.args.parameter in
    chosen whole c.loop-part.best c.row_of.result c.shorter-best.result c.shorter-best.ensures c.loop-part.invariant
    (some_row (Covers task part env c.args.parameter) whole
    (λ row. part_covers task c.args.condition.now c.in-And.parts i part env c.args.parameter row c.in-And.is (subst (λ items. i < length items) same c.loop-part-test.true) (c.part-item.is ∙ ap (λ items. get_or items i part) same))
    c.row_of.result c.row_of.ensures)
