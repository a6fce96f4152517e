use Rattle.std.proofs.Common.{◌∙◌, List, sym, subst, Decides}
use Rattle.std.proofs.lemmas.Option.{same_Some}
use Rattle.fond_policy.specs.declared.item.Item.{Item}
use Rattle.fond_policy.specs.Items.{IsSureItem, IsSureWay}
use Rattle.fond_policy.proofs.Placed.{altered_own}
use Rattle.fond_policy.proofs.sure.sure_item.Goals as goal

pub returns-clause-decides : goal.returns-clause-decides
returns-clause-decides g c = λ item has.
    let task = c.args.t.now in
    let firsts = g.R.Firsts.firsts c.args.rules.now in
    let items = c.args.items.now in
    let own = c.get.result.now in
    let yes = c.is_sure_with.result in
    let P : List Item → Type 0 = λ others. Decides yes (IsSureWay task firsts others own.cube own.way) in
    let Q : Item → Type 0 = λ one. Decides yes (IsSureItem task firsts items one) in
    subst Q (same_Some own item (sym c.get.ensures ∙ has)) (subst P (altered_own items c.args.at own c.get.ensures) (c.is_sure_with.ensures.decides own c.get.ensures))
