use Rattle.std.proofs.Common.{◌≡◌, ◌∙◌, ◌++◌, ◌∷◌, [], List, cond, ap, sym, subst, refl}
use Rattle.std.specs.Prelude.{nat_eq}
use Rattle.fond_task.specs.declared.rule.Pair.{Pair}
use Rattle.fond_task.specs.Layers.{CubeView}
use Rattle.fond_rules.specs.Groups.{AreConditionsOf, cubes_of}
use Rattle.fond_rules.proofs.Grouped.{conditions_more}
use Rattle.fond_rules.proofs.pairs.Pairs.push.Goals as goal

pub invariant_of-self-2 : goal.invariant_of-self-2
invariant_of-self-2 c = (
  c.add.ensures.apart,
  λ act.
      let items = c.self.inside.items.items in
      let pair = c.args.p in
      let known = cubes_of c.self.inside.groups act in
      let more = cubes_of c.add.new.self act in
      let pushed : c.push.new.self.items ≡ items ++ pair ∷ [] = c.in_ok-push.ensures.items ∙ ap (λ xs. xs ++ pair ∷ []) c.reserve.ensures.items in
      let P : List Pair → Type 0 = λ pairs. AreConditionsOf pairs act more in
      let Q : List CubeView → Type 0 = λ cubes. AreConditionsOf (items ++ pair ∷ []) act cubes in
      let R : CubeView → Type 0 = λ cube. AreConditionsOf (items ++ pair ∷ []) act (cond (nat_eq pair.act act) (known ++ cube ∷ []) known) in
      subst P (sym pushed) (subst Q (sym (c.in_ok-add.ensures.ok act)) (subst R (sym c.in_ok-cond.ensures) (conditions_more items pair act known (c.self.invariant.1 act) (nat_eq pair.act act) refl))),
)
