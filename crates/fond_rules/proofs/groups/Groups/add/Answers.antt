use Rattle.std.proofs.Common.{◌≡◌, ◌∙◌, ◌++◌, ◌∷◌, [], cond, ap}
use Rattle.std.specs.Prelude.{nat_eq}
use Rattle.std.specs.HashMap.{get}
use Rattle.std.proofs.lemmas.List.{get_or_default}
use Rattle.std.proofs.lemmas.Result.{on_ok_weaker}
use Rattle.fond_rules.proofs.Grouped.{put_cube}
use Rattle.fond_rules.proofs.groups.Groups.add.Goals as goal

pub returns-clause-ok : goal.returns-clause-ok
returns-clause-ok c =
    let lists = c.number_of.new.self.lists.items in
    let numbers = get nat_eq c.number_of.new.self.numbers in
    let act = c.args.act in
    let number = c.in_ok-number.number in
    let list = c.index_mut.result.now in
    let cube = c.args.cube in
    let own = c.in_ok-number.ensures.number in
    let apart = c.number_of.ensures.apart in
    on_ok_weaker c.put.result
    (λ (put : c.put.new.list ≡ list ++ cube ∷ []) other.
    put_cube lists numbers apart act number own cube c.put.new.list (put ∙ ap (λ cubes. cubes ++ cube ∷ []) (c.index_mut.ensures.value ∙ get_or_default lists number list [] (apart.there act number own))) other
    ∙ ap (λ cubes. cond (nat_eq act other) (cubes ++ cube ∷ []) cubes) (c.number_of.ensures.same other))
    c.put.ensures.ok
