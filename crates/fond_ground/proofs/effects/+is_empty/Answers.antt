use Rattle.std.proofs.Common.{◌∙◌, ◌++◌, map, sym, ap}
use Rattle.fond_text.specs.Lists.{concatenations}
use Rattle.fond_ast.specs.Ranges.{objects_of}
use Rattle.fond_ast.specs.Conditions.{tuples}
use Rattle.fond_ast.specs.Outcomes.{guarded, outcomes}
use Rattle.fond_ground.proofs.Empties.{all_empty, empty_next, outcomes-Nothing}
use Rattle.fond_ground.proofs.Grounded.{outcomes-And, outcomes-Forall, outcomes-When}
use Rattle.fond_ground.proofs.effects.+is_empty.Goals as goal

pub returns-in-Nothing : goal.returns-in-Nothing
returns-in-Nothing t c = λ yes env. ap (outcomes env) c.in-Nothing.is ∙ outcomes-Nothing env

pub loop-member-init : goal.loop-member-init
loop-member-init t c = λ env.
    ap (λ members. concatenations (map (outcomes env) members)) c.deref-member-items.ensures.value ∙ sym (ap (outcomes env) c.in-And.is ∙ outcomes-And env c.in-And.members)

pub loop-member-preserved : goal.loop-member-preserved
loop-member-preserved t c = λ env.
    empty_next env c.deref-member-items.result.now c.loop-member.member-index c.member-item.result c.loop-member-test.true c.member-item.is (c.is_empty.ensures c.if-not-is_empty.false env)
    ∙ c.loop-member.invariant env

pub returns-in-Forall : goal.returns-in-Forall
returns-in-Forall t c = λ yes env.
    ap (outcomes env) c.in-Forall.is ∙ outcomes-Forall env c.in-Forall.field-0 c.in-Forall.part
    ∙ all_empty (λ objects. outcomes (env ++ objects) c.in-Forall.part.value) (λ objects. ap (outcomes (env ++ objects)) (sym c.deref.ensures) ∙ c.is_empty-in-Forall.ensures yes (env ++ objects)) (tuples (objects_of c.in-Forall.field-0))

pub returns-in-When : goal.returns-in-When
returns-in-When t c = λ yes env.
    let guard = guarded (record { env = env; condition = c.in-When.field-0 }) in
    ap (outcomes env) c.in-When.is ∙ outcomes-When env c.in-When.field-0 c.in-When.part
    ∙ ap (map (map guard)) (ap (outcomes env) (sym c.deref-in-When.ensures) ∙ c.is_empty-in-When.ensures yes env)
