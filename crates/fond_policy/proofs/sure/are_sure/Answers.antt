use Rattle.std.proofs.Common.{◌<◌, length, refl, arith}
use Rattle.std.proofs.lemmas.Bool.{false≢true}
use Rattle.std.proofs.lemmas.Option.{slice_get_within}
use Rattle.fond_policy.proofs.Placed.{there}
use Rattle.fond_policy.proofs.sure.are_sure.Goals as goal

pub returns-then-not-sure_item-clause-decides : goal.returns-then-not-sure_item-clause-decides
returns-then-not-sure_item-clause-decides g c =
    let items = c.args.items.now in
    let at = c.loop-at.at in
    let within : at < length items = omega (arith, c.loop-at-test.true, c.len-at-end.ensures) in
    let item = there items at within in
    (λ e. absurd (false≢true e), λ all. (c.if-not-sure_item.ensures.decides item.0 item.1).1 (all at item.0 item.1))

pub returns-clause-decides : goal.returns-clause-decides
returns-clause-decides g c = (
  λ e number item has. c.loop-at.invariant.sure number item (omega (arith, slice_get_within c.args.items.now number item has, c.loop-at-test.false, c.len-at-end.ensures)) has,
  λ all. refl,
)
