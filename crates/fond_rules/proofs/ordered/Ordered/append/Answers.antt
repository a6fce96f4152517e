use Rattle.std.proofs.Common.{◌≡◌, ◌∙◌, List, [], ◌∷◌, ◌++◌, Bool, Option, length, map, sym, ap, subst, arith, length-append}
use Rattle.std.proofs.lemmas.List.{map-append}
use Rattle.fond_match.specs.Blocks.{IsIndexOf}
use Rattle.fond_match.proofs.Growing.{index_more}
use Rattle.fond_rules.proofs.ordered.Ordered.append.Goals as goal

pub invariant_of-self : goal.invariant_of-self
invariant_of-self g c = rw c.in_err-push.ensures.items c.self.invariant

pub invariant_of-self-2 : goal.invariant_of-self-2
invariant_of-self-2 g c =
    let cube = g.T.HasCube.cube in
    let old = c.self.inside.items.items in
    let more = c.args.item ∷ [] in
    let pushed : c.push.new.self.items ≡ old ++ more = c.in_ok-push.ensures.items in
    let cubes : map cube c.push.new.self.items ≡ map cube old ++ map cube more = ap (map cube) pushed ∙ map-append cube old more in
    let P : List (List (Option Bool)) → Type 0 = λ cubes. IsIndexOf cubes c.self.inside.index in
    (omega (arith, ap length pushed, length-append old more, c.requires, ap length c.self.view_is), subst P (sym cubes) (index_more (map cube old) (map cube more) c.self.inside.index c.self.invariant.1))

pub returns : goal.returns
returns g c = record { ok = c.in_ok-push.ensures.items ∙ ap (λ items. items ++ c.args.item ∷ []) c.self.view_is; err = tt }
