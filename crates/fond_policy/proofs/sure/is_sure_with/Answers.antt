use Rattle.std.proofs.Common.{◌∙◌, sym, subst, Decides}
use Rattle.std.proofs.lemmas.Option.{same_Some}
use Rattle.fond_policy.proofs.Placed.{altered_over}
use Rattle.fond_policy.specs.declared.item.Item.{Item}
use Rattle.fond_policy.specs.declared.item.Way.{Way}
use Rattle.fond_policy.specs.Altered.{altered}
use Rattle.fond_policy.specs.Items.{IsSureWay}
use Rattle.fond_policy.proofs.sure.is_sure_with.Goals as goal

pub goes_on-requires-clause-over : goal.goes_on-requires-clause-over
goes_on-requires-clause-over g c = altered_over _ _ _ _ c.requires.over c.requires.cube_over

pub returns-in-Goal-clause-decides : goal.returns-in-Goal-clause-decides
returns-in-Goal-clause-decides g c = λ item has.
    let P : Way → Type 0 = λ way. Decides c.is_yes.result (IsSureWay c.args.t.now (g.R.Firsts.firsts c.args.rules.now) (altered c.args.items.now c.args.at c.args.cube.now) c.args.cube.now way) in
    subst (λ (i : Item). P i.way) (same_Some c.get.result.now item (sym c.get.ensures ∙ has)) (subst P (sym c.in-Goal.is) c.is_yes.ensures)

pub returns-in-Rule-clause-decides : goal.returns-in-Rule-clause-decides
returns-in-Rule-clause-decides g c = λ item has.
    let P : Way → Type 0 = λ way. Decides c.goes_on.result (IsSureWay c.args.t.now (g.R.Firsts.firsts c.args.rules.now) (altered c.args.items.now c.args.at c.args.cube.now) c.args.cube.now way) in
    subst (λ (i : Item). P i.way) (same_Some c.get.result.now item (sym c.get.ensures ∙ has)) (subst P (sym c.in-Rule.is) c.goes_on.ensures.decides)
