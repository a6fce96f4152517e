use Rattle.std.proofs.Common.{◌∙◌, [], length, get_or, sym, ap, arith}
use Rattle.std.proofs.lemmas.Option.{slice_get-get_or}
use Rattle.fond_policy.proofs.Walking.{not_goal}
use Rattle.fond_draft.proofs.replay.leads_on.Goals as goal

pub returns : goal.returns
returns c =
    let act = c.get.result.now in
    let k = c.args.step.outcome in (
      λ yes. record {
        open_ = not_goal _ (sym c.is_goal.ensures ∙ c.if-is_goal.false);
        act = act;
        has_act = c.get.ensures;
        applicable = sym (c.applicable.ensures act c.get.ensures) ∙ yes;
        entries = get_or act.outcomes k [];
        has_outcome = slice_get-get_or act.outcomes k [] (omega (arith, c.if-step-len-2.false, c.len-2.ensures ∙ ap length c.deref.ensures));
      },
      λ leads. c.applicable.ensures leads.act leads.has_act ∙ leads.applicable,
    )
