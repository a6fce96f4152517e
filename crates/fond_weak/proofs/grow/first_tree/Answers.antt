use Rattle.std.proofs.Common.{◌≡◌, ◌++◌, ◌∷◌, [], List, Bool, Option, None, sym, ap, ◌∙◌, subst}
use Rattle.fond_weak.specs.Trees.{IsTree}
use Rattle.fond_weak.specs.declared.tree.Link.{Link}
use Rattle.fond_weak.proofs.Found.{tree_first}
use Rattle.fond_weak.proofs.grow.first_tree.Goals as goal

pub returns : goal.returns
returns c =
    let setting = c.args.setting.now in
    let from = setting.from.now in
    let none : Option Link = None in
    let links : c.push.new.self.items ≡ none ∷ [] = c.in_ok-push.ensures.items ∙ ap (λ (ls : List (Option Link)). ls ++ none ∷ []) c.new-links.ensures.items in
    let P : List (List Bool) → Type 0 = λ ss. IsTree setting.task.now setting.pairs.now from ss c.push.new.self.items in
    let Q : List (Option Link) → Type 0 = λ ls. IsTree setting.task.now setting.pairs.now from (from ∷ []) ls in
    subst P (sym c.in_ok-states.ensures) (subst Q (sym links) (tree_first setting.task.now setting.pairs.now from setting.long))
