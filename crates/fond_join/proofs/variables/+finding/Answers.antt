use Rattle.std.proofs.Common.{◌∙◌, map, sym, ap, arith}
use Rattle.std.specs.List.{list_any}
use Rattle.fond_ast.specs.Laws.{has_variable}
use Rattle.fond_ast.specs.Patterns.{is_variable}
use Rattle.fond_join.proofs.Occurring.{neither, occurs-Holds, occurs-Equal, occurs-And, occurs-Or, occurs-Not, occurs-Imply, occurs-Forall, occurs-Exists, found_next, found_end}
use Rattle.fond_join.proofs.variables.+finding.Goals as goal

pub has_variables-returns-in-Holds : goal.has_variables-returns-in-Holds
has_variables-returns-in-Holds t c = λ none number from below.
    ap (has_variable number) c.in-Holds.is ∙ occurs-Holds number c.in-Holds.atom
    ∙ ap (list_any (is_variable number)) (sym c.as_slice.ensures) ∙ c.are_between.ensures none number from below

pub has_variables-returns-else-is_between : goal.has_variables-returns-else-is_between
has_variables-returns-else-is_between t c = λ none number from below.
    ap (has_variable number) c.in-Equal.is ∙ occurs-Equal number c.in-Equal.term c.in-Equal.other
    ∙ neither _ _ (c.is_between.ensures c.if-is_between.false number from below) (c.is_between-else-is_between.ensures none number from below)

pub has_variables-returns-in-And : goal.has_variables-returns-in-And
has_variables-returns-in-And t c = λ none number from below.
    ap (has_variable number) c.in-And.is ∙ occurs-And number c.in-And.parts
    ∙ ap (λ parts. list_any (λ found. found) (map (has_variable number) parts)) (sym c.deref.ensures.value) ∙ c.have_variables.ensures none number from below

pub has_variables-returns-in-Or : goal.has_variables-returns-in-Or
has_variables-returns-in-Or t c = λ none number from below.
    ap (has_variable number) c.in-Or.is ∙ occurs-Or number c.in-Or.parts
    ∙ ap (λ parts. list_any (λ found. found) (map (has_variable number) parts)) (sym c.deref-in-Or.ensures.value) ∙ c.have_variables-in-Or.ensures none number from below

pub has_variables-returns-in-Not : goal.has_variables-returns-in-Not
has_variables-returns-in-Not t c = λ none number from below.
    ap (has_variable number) c.in-Not.is ∙ occurs-Not number c.in-Not.part
    ∙ ap (has_variable number) (sym c.deref-in-Not.ensures) ∙ c.has_variables.ensures none number from below

pub has_variables-returns-else-has_variables : goal.has_variables-returns-else-has_variables
has_variables-returns-else-has_variables t c = λ none number from below.
    ap (has_variable number) c.in-Imply.is ∙ occurs-Imply number c.in-Imply.part c.in-Imply.other
    ∙ neither _ _ (ap (has_variable number) (sym c.deref-in-Imply.ensures) ∙ c.has_variables-in-Imply.ensures c.if-has_variables.false number from below)
    (ap (has_variable number) (sym c.deref-else-has_variables.ensures) ∙ c.has_variables-else-has_variables.ensures none number from below)

pub has_variables-returns-in-Forall : goal.has_variables-returns-in-Forall
has_variables-returns-in-Forall t c = λ none number from below.
    ap (has_variable number) c.in-Forall.is ∙ occurs-Forall number c.in-Forall.field-0 c.in-Forall.part
    ∙ ap (has_variable number) (sym c.deref-in-Forall.ensures) ∙ c.has_variables-in-Forall.ensures none number from below

pub has_variables-returns-in-Exists : goal.has_variables-returns-in-Exists
has_variables-returns-in-Exists t c = λ none number from below.
    ap (has_variable number) c.in-Exists.is ∙ occurs-Exists number c.in-Exists.field-0 c.in-Exists.part
    ∙ ap (has_variable number) (sym c.deref-in-Exists.ensures) ∙ c.has_variables-in-Exists.ensures none number from below

pub have_variables-loop-part-preserved : goal.have_variables-loop-part-preserved
have_variables-loop-part-preserved t c = λ number from below rest.
    c.loop-part.invariant number from below
    (found_next number c.args.parts.now c.loop-part.part-index c.part-item.result c.loop-part-test.true c.part-item.is (c.has_variables.ensures c.if-has_variables.false number from below) rest)

pub have_variables-returns : goal.have_variables-returns
have_variables-returns t c = λ none number from below.
    let past = c.loop-part-test.false in
    c.loop-part.invariant number from below (found_end number c.args.parts.now c.loop-part.part-index (omega (arith, past)))
