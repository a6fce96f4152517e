use Rattle.std.proofs.Common.{◌∙◌, sym, subst}
use Rattle.fond_tree.specs.Left.{BeginsUnclosed}
use Rattle.fond_tree.proofs.Places.{closes, not_closing, nothing_left, end_step}
use Rattle.fond_tree.proofs.scan.Scanner.closes.Goals as goal

pub returns-in_default-clause-taken : goal.returns-in_default-clause-taken
returns-in_default-clause-taken c =
    (sym c.skip.ensures.same, subst BeginsUnclosed (sym (nothing_left c.skip.new.self.place _ c.in_default.ensures.cases) ∙ c.skip.ensures.same) tt)

pub returns-then-b-ne41-clause-taken : goal.returns-then-b-ne41-clause-taken
returns-then-b-ne41-clause-taken c = (
  sym c.skip.ensures.same,
  subst BeginsUnclosed c.skip.ensures.same (not_closing _ c.in-Some.b.now _ c.in-Some.rest.now c.in-Some.ensures.cases.0 c.skip.ensures.ends c.if-b-ne41.true),
)

pub returns-clause-taken : goal.returns-clause-taken
returns-clause-taken c = (
  c.skip.new.self.place,
  sym c.skip.ensures.same ∙ closes _ _ c.in-Some.b.now _ c.in-Some.rest.now _ c.in-Some.ensures.cases.0 c.if-b-ne41.false c.step.ensures.place c.step.ensures.rest,
)

pub returns-clause-end : goal.returns-clause-end
returns-clause-end c = end_step _ _ c.in-Some.b.now _ c.in-Some.rest.now _ c.in-Some.ensures.cases.0 c.step.ensures.place c.step.ensures.rest ∙ c.skip.ensures.end
