use Rattle.std.proofs.Common.{◌≡◌, ◌++◌, ◌∷◌, [], List, Bool, Option, sym, ap, ◌∙◌, subst}
use Rattle.std.specs.Prelude.{Contains}
use Rattle.fond_task.proofs.Lists.{Contains_numbered}
use Rattle.fond_weak.specs.Trees.{IsTree}
use Rattle.fond_weak.specs.declared.tree.Link.{Link}
use Rattle.fond_weak.proofs.Found.{found_has, found_none, added, more_none, tree_more}
use Rattle.fond_weak.proofs.grow.add_state.Goals as goal

pub returns-then-is_some-clause-more : goal.returns-then-is_some-clause-more
returns-then-is_some-clause-more c = more_none c.args.tree.now.states

pub returns-then-is_some-clause-has : goal.returns-then-is_some-clause-has
returns-then-is_some-clause-has c = found_has c.args.tree.now.states c.args.next.now c.find.result c.find.ensures (sym c.is_some.ensures ∙ c.if-is_some.true)

grown : (c : goal.In_ok-add) → c.add.new.self ≡ c.args.tree.now.states ++ c.args.next.now ∷ []
grown c =
    let old = c.args.tree.now.states in
    let next = c.args.next.now in
    let own = c.in_ok-copy.field-0 in
    let same : own ≡ next = c.in_ok-copy.ensures in
    let fresh = found_none old next c.find.result c.find.ensures (sym c.is_some.ensures ∙ c.if-is_some.false) in
    added old own c.in_ok-add.field-0 c.add.new.self c.in_ok-add.ensures.ok (subst (λ (s : List Bool). ¬ Contains old s) (sym same) fresh) ∙ ap (λ (s : List Bool). old ++ s ∷ []) same

pub returns-clause-tree : goal.returns-clause-tree
returns-clause-tree c =
    let setting = c.args.setting.now in
    let tree = c.args.tree.now in
    let next = c.args.next.now in
    let P : List (List Bool) → Type 0 = λ ss. IsTree setting.task.now setting.pairs.now setting.from.now ss c.push.new.self.items in
    let Q : List (Option Link) → Type 0 = λ ls. IsTree setting.task.now setting.pairs.now setting.from.now (tree.states ++ next ∷ []) ls in
    subst P (sym (grown c)) (subst Q (sym c.in_ok-push.ensures.items) (tree_more setting.task.now setting.pairs.now setting.from.now tree.states tree.links.items c.requires.tree c.args.link next c.requires.leads))

pub returns-clause-more : goal.returns-clause-more
returns-clause-more c = (c.args.next.now ∷ [], grown c)

pub returns-clause-has : goal.returns-clause-has
returns-clause-has c = subst (λ (s : List Bool). Contains c.add.new.self s) c.in_ok-copy.ensures (Contains_numbered c.add.new.self c.in_ok-add.field-0 c.in_ok-copy.field-0 c.in_ok-add.ensures.ok.numbered)
