use Rattle.std.proofs.Common.{inr, ◌∙◌, sym, ap, ⊎_elim}
use Rattle.std.specs.Option.{is_some}
use Rattle.fond_policy.proofs.Walking.{not_goal}
use Rattle.fond_draft.proofs.Rules.{has_selected, selects}
use Rattle.fond_draft.proofs.turn.is_covered.Goals as goal

pub returns : goal.returns
returns c =
    let rules = c.args.rules.now in
    let state = c.args.state.now in (
      λ yes. inr (has_selected rules state (ap is_some (sym c.select.ensures) ∙ sym c.is_some.ensures ∙ yes)),
      λ covered. ⊎_elim
          (λ is_goal. absurd (not_goal _ (sym c.is_goal.ensures ∙ c.if-is_goal.false) is_goal))
          (λ has. c.is_some.ensures ∙ ap is_some c.select.ensures ∙ selects rules state has)
          covered,
    )
