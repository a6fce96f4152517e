use Rattle.std.proofs.Common.{◌∙◌, sym, ⊎_elim}
use Rattle.fond_policy.proofs.Walking.{not_goal}
use Rattle.fond_draft.proofs.Rules.{selected_holds, selected_none}
use Rattle.fond_draft.proofs.target.target_of.Goals as goal

pub returns-in_default : goal.returns-in_default
returns-in_default c = ⊎_elim (not_goal _ (sym c.is_goal.ensures ∙ c.if-is_goal.false)) (selected_none c.args.rules.now c.args.state.now (sym c.select.ensures ∙ c.in_default.is))

pub returns : goal.returns
returns c = selected_holds c.args.rules.now c.args.state.now c.in-Some.number (sym c.select.ensures ∙ c.in-Some.is)
