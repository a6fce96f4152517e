use Rattle.std.proofs.Common.{◌≡◌, ◌∙◌, None, ap, sym, subst}
use Rattle.std.specs.Prelude.{length}
use Rattle.std.proofs.lemmas.List.{length-set}
use Rattle.fond_state.specs.Cubes.{CubeLiesIn, literal_at, without_literal}
use Rattle.fond_rules.proofs.Literals.{gone, lies_in_rest}
use Rattle.fond_rules.proofs.lean.drop_spare.Goals as goal

pub returns-clause-long : goal.returns-clause-long
returns-clause-long g c = ap length c.drop_literal.ensures ∙ length-set c.needs.new.cond c.args.atom None ∙ ap length c.needs.ensures.kept

pub returns-clause-lies : goal.returns-clause-lies
returns-clause-lies g c =
    let cond = c.args.cond.now in
    let after : c.drop_literal.new.self ≡ without_literal cond c.args.atom = c.drop_literal.ensures ∙ ap (λ cube. without_literal cube c.args.atom) c.needs.ensures.kept in
    subst (CubeLiesIn cond) (sym after) (lies_in_rest cond c.args.atom)

pub returns-clause-passes : goal.returns-clause-passes
returns-clause-passes g c =
    let after : c.drop_literal.new.self ≡ without_literal c.args.cond.now c.args.atom = c.drop_literal.ensures ∙ ap (λ cube. without_literal cube c.args.atom) c.needs.ensures.kept in
    subst (g.T.Test.passes c.args.test.now) (sym after) (c.needs.ensures.spare c.if-needs.false)

pub returns-clause-needed : goal.returns-clause-needed
returns-clause-needed g c = λ sign is passed. gone c.needs.new.cond c.args.atom sign (ap (λ cube. literal_at cube c.args.atom) (sym c.drop_literal.ensures) ∙ is)
