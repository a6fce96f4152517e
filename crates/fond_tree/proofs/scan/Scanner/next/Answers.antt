use Rattle.std.proofs.Common.{◌∙◌, sym, arith}
use Rattle.fond_tree.proofs.Places.{opens, closes, strays, nothing_left, end_step, at_end}
use Rattle.fond_tree.proofs.scan.Scanner.next.Goals as goal

pub returns-in_default-clause-yields : goal.returns-in_default-clause-yields
returns-in_default-clause-yields c = (
  sym c.skip.ensures.same ∙ nothing_left _ _ c.in_default.ensures.cases,
  sym (at_end _ _ c.in_default.ensures.cases) ∙ c.skip.ensures.end,
)

pub returns-in-40-clause-yields : goal.returns-in-40-clause-yields
returns-in-40-clause-yields c =
    sym c.skip.ensures.same ∙ opens _ _ c.in-Some.b.now _ c.in-Some.rest.now _ c.in-Some.ensures.cases.0 c.in-40.is c.step.ensures.place c.step.ensures.rest

pub returns-in-40-clause-end : goal.returns-in-40-clause-end
returns-in-40-clause-end c = end_step _ _ c.in-Some.b.now _ c.in-Some.rest.now _ c.in-Some.ensures.cases.0 c.step.ensures.place c.step.ensures.rest ∙ c.skip.ensures.end

pub returns-in-41-clause-yields : goal.returns-in-41-clause-yields
returns-in-41-clause-yields c =
    sym c.skip.ensures.same ∙ closes _ _ c.in-Some.b.now _ c.in-Some.rest.now _ c.in-Some.ensures.cases.0 c.in-41.is c.step.ensures.place c.step.ensures.rest

pub returns-in-41-clause-end : goal.returns-in-41-clause-end
returns-in-41-clause-end c = end_step _ _ c.in-Some.b.now _ c.in-Some.rest.now _ c.in-Some.ensures.cases.0 c.step.ensures.place c.step.ensures.rest ∙ c.skip.ensures.end

pub returns-in_default-b-clause-yields : goal.returns-in_default-b-clause-yields
returns-in_default-b-clause-yields c =
    sym c.skip.ensures.same
    ∙ strays _ _ c.in-Some.b.now _ c.in-Some.rest.now _ c.in-Some.ensures.cases.0 c.skip.ensures.ends (λ e. omega arith) (λ e. omega arith) (sym c.is_leaf_byte.ensures ∙ c.if-is_leaf_byte.false) c.step.ensures.place c.step.ensures.rest

pub returns-in_default-b-clause-end : goal.returns-in_default-b-clause-end
returns-in_default-b-clause-end c = end_step _ _ c.in-Some.b.now _ c.in-Some.rest.now _ c.in-Some.ensures.cases.0 c.step.ensures.place c.step.ensures.rest ∙ c.skip.ensures.end
