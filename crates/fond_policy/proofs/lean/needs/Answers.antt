use Rattle.std.proofs.Common.{◌∙◌, Some, None, length, sym, ap, ◌≡◌, ◌<◌, subst}
use Rattle.std.specs.Prelude.{slice_set}
use Rattle.std.proofs.lemmas.Bool.{false≢true, not-true, not-false}
use Rattle.std.proofs.lemmas.List.{length-set}
use Rattle.fond_state.specs.Cubes.{literal_at, without_literal}
use Rattle.fond_rules.proofs.Literals.{literal_within, put_back}
use Rattle.fond_policy.proofs.Placed.{there, sure_with, sure_without}
use Rattle.fond_policy.proofs.lean.needs.Goals as goal

pub is_sure_beside-is_sure-requires-clause-cube_over : goal.is_sure_beside-is_sure-requires-clause-cube_over
is_sure_beside-is_sure-requires-clause-cube_over g c =
    let item = there c.args.items.now c.args.at c.requires.there in
    ap length c.drop_literal.ensures ∙ length-set c.args.scratch.now.cube c.args.atom None ∙ ap length (c.requires.same item.0 item.1) ∙ c.requires.over c.args.at item.0 item.1

pub returns-clause-same_cube : goal.returns-clause-same_cube
returns-clause-same_cube g c =
    let sign = c.in-Some.sign in
    c.put_literal.ensures ∙ ap (λ cube. slice_set cube c.args.atom (Some sign)) (c.is_sure_beside-is_sure.ensures.same_cube ∙ c.drop_literal.ensures)
    ∙ put_back c.args.scratch.now.cube c.args.atom sign (sym c.in-Some.ensures)

pub returns-clause-needed : goal.returns-clause-needed
returns-clause-needed g c = λ yes item has sign at sure.
    let task = c.args.t.now in
    let firsts = g.R.Firsts.firsts c.args.rules.now in
    let cube = c.drop_literal.new.self in
    let is = c.drop_literal.ensures ∙ ap (λ cube. without_literal cube c.args.atom) (c.requires.same item has) in
    false≢true (sym (not-true _ yes) ∙ (c.is_sure_beside-is_sure.ensures.decides item has).1 (sure_with task firsts c.args.items.now c.args.at item has c.args.atom cube is sure))

pub returns-clause-spare : goal.returns-clause-spare
returns-clause-spare g c = λ no item has.
    let task = c.args.t.now in
    let firsts = g.R.Firsts.firsts c.args.rules.now in
    let cube = c.drop_literal.new.self in
    let same = c.requires.same item has in
    let is = c.drop_literal.ensures ∙ ap (λ cube. without_literal cube c.args.atom) same in
    record {
      sign = c.in-Some.sign;
      has = ap (λ cube. literal_at cube c.args.atom) (sym same) ∙ sym c.in-Some.ensures;
      sure = sure_without task firsts c.args.items.now c.args.at item has c.args.atom cube is ((c.is_sure_beside-is_sure.ensures.decides item has).0 (not-false _ no));
    }

pub put_literal-requires : goal.put_literal-requires
put_literal-requires g c =
    let cube = c.args.scratch.now.cube in
    let same : length c.is_sure_beside-is_sure.new.scratch.cube ≡ length cube = ap length (c.is_sure_beside-is_sure.ensures.same_cube ∙ c.drop_literal.ensures) ∙ length-set cube c.args.atom None in
    subst (λ n. c.args.atom < n) (sym same) (literal_within cube c.args.atom c.in-Some.sign (sym c.in-Some.ensures))
