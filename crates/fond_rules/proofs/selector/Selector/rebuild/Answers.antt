use Rattle.std.proofs.Common.{◌∙◌, List, map, subst}
use Rattle.fond_match.specs.Matchers.{IsMatcherOf}
use Rattle.fond_task.specs.declared.rule.Rule.{Rule}
use Rattle.fond_rules.proofs.selector.Selector.rebuild.Goals as goal

pub invariant_of-self : goal.invariant_of-self
invariant_of-self c =
    let P : List Rule → Type 0 = λ rules. IsMatcherOf (map (λ (rule : Rule). rule.cond) rules) c.in-Ok.near in
    subst P (c.as_slice.ensures.value ∙ c.rules.view_is) c.in-Ok.ensures.of
