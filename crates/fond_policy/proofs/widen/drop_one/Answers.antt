use Rattle.std.proofs.Common.{true, refl, sym, subst, ◌∙◌, ap}
use Rattle.std.specs.Prelude.{slice_get}
use Rattle.std.proofs.lemmas.Option.{same_Some}
use Rattle.fond_policy.specs.Wider.{HaveWidened}
use Rattle.fond_policy.proofs.Placed.{there, got_same}
use Rattle.fond_policy.proofs.Widened.{widened_drop, widened_none}
use Rattle.fond_state.specs.Cubes.{without_literal}
use Rattle.fond_policy.specs.declared.item.Item.{Item}
use Rattle.fond_policy.specs.Items.{with_cube}
use Rattle.fond_policy.proofs.widen.drop_one.Goals as goal

pub returns-clause-widened : goal.returns-clause-widened
returns-clause-widened g c =
    let task = c.args.t.now in
    let firsts = g.R.Firsts.firsts c.args.rules.now in
    let items = c.args.items.now in
    let item = there items c.args.at c.requires.there in
    let is = c.drop_literal.ensures item.0 item.1 in
    let spare = c.if-needs.ensures.spare refl item.0 item.1 in
    subst (λ xs. HaveWidened task firsts items xs true) (sym is)
    (widened_drop task firsts items c.args.at item.0 c.args.atom spare.sign item.1 spare.has c.requires.over c.requires.sure spare.sure)

pub returns-then-needs-clause-widened : goal.returns-then-needs-clause-widened
returns-then-needs-clause-widened g c = widened_none c.args.t.now (g.R.Firsts.firsts c.args.rules.now) c.args.items.now c.requires.over c.requires.sure

pub returns-clause-same_cube : goal.returns-clause-same_cube
returns-clause-same_cube g c = λ item has.
    let items = c.args.items.now in
    let atom = c.args.atom in
    let own = there items c.args.at c.requires.there in
    let lesser : Item = with_cube own.0 (without_literal own.0.cube atom) in
    let is = sym (got_same items c.args.at own.0 lesser own.1) ∙ ap (λ xs. slice_get xs c.args.at) (sym (c.drop_literal.ensures own.0 own.1)) ∙ has in
    c.drop_literal-2.ensures ∙ ap (λ cube. without_literal cube atom) (c.needs.ensures.same_cube ∙ c.requires.same own.0 own.1) ∙ ap (λ (i : Item). i.cube) (same_Some lesser item is)
