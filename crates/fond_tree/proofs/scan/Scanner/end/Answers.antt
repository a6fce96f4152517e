use Rattle.std.proofs.Common.{◌≡◌, ◌<◌, ◌∙◌, length, sym, arith}
use Rattle.std.proofs.lemmas.Bool.Decides.{nat_tests}
use Rattle.fond_tree.proofs.Places.{nothing_left, something_left, at_end}
use Rattle.fond_tree.proofs.scan.Scanner.end.Goals as goal

pub returns-then-is_empty-clause-found : goal.returns-then-is_empty-clause-found
returns-then-is_empty-clause-found c =
    let none : length c.skip.new.self.rest.now ≡ 0 = grind (arith, nat_tests) in
    (sym c.skip.ensures.same ∙ nothing_left _ _ none, sym (at_end _ _ none) ∙ c.skip.ensures.end)

pub returns-else-is_empty-clause-found : goal.returns-else-is_empty-clause-found
returns-else-is_empty-clause-found c = λ none.
    let some : 0 < length c.skip.new.self.rest.now = grind (arith, nat_tests) in
    something_left _ _ some c.skip.ensures.ends (c.skip.ensures.same ∙ none)
