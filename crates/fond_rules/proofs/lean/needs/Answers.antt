use Rattle.std.proofs.Common.{◌∙◌, Some, ap, sym}
use Rattle.std.specs.Prelude.{slice_set}
use Rattle.fond_rules.proofs.Literals.{put_back}
use Rattle.fond_rules.proofs.lean.needs.Goals as goal

pub returns-clause-kept : goal.returns-clause-kept
returns-clause-kept g c =
    let sign = c.in-Some.sign in
    c.put_literal.ensures ∙ ap (λ cube. slice_set cube c.args.atom (Some sign)) c.drop_literal.ensures ∙ put_back c.args.cond.now c.args.atom sign (sym c.in-Some.ensures)
