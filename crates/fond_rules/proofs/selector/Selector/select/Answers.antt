use Rattle.std.proofs.Common.{◌∙◌, List, map, sym, subst}
use Rattle.fond_match.specs.Matchers.{IsMatcherOf}
use Rattle.fond_task.specs.declared.rule.Rule.{Rule}
use Rattle.fond_rules.proofs.selector.Selector.select.Goals as goal

pub first-requires-clause-of : goal.first-requires-clause-of
first-requires-clause-of c =
    let P : List Rule → Type 0 = λ rules. IsMatcherOf (map (λ (rule : Rule). rule.cond) rules) c.self.inside.near in
    subst P (sym (c.as_slice.ensures.value ∙ c.rules.view_is)) c.self.invariant
