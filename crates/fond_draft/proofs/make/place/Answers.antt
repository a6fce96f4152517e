use Rattle.std.proofs.Common.{◌≡◌, ◌∙◌, sym, ap, subst}
use Rattle.std.specs.Option.{is_some}
use Rattle.std.proofs.lemmas.Option.{same_Some}
use Rattle.fond_task.proofs.Lists.{Contains_numbered}
use Rattle.fond_explicit.specs.Answers.{ChoiceView}
use Rattle.fond_draft.specs.Targets.{HasRule}
use Rattle.fond_draft.proofs.Made.{free_choice}
use Rattle.fond_draft.proofs.Rules.{has_selected}
use Rattle.fond_draft.proofs.make.place.Goals as goal

pub returns-then-is_some-clause-ruled : goal.returns-then-is_some-clause-ruled
returns-then-is_some-clause-ruled c = λ choice at.
    let rules = c.args.draft.now.rules in
    let own = c.get-pick.result.now in
    let same : own ≡ choice = same_Some own choice (sym c.get-pick.ensures ∙ at) in
    record {
      has = subst (λ (x : ChoiceView). HasRule rules x.state) same (has_selected rules own.state (sym (c.is_some.ensures ∙ ap is_some c.select.ensures) ∙ c.if-is_some.true));
      kept = λ other has. has;
      draft = c.requires.draft;
    }

pub add_rule-requires-clause-ready : goal.add_rule-requires-clause-ready
add_rule-requires-clause-ready c = c.requires.ready c.get-pick.result.now c.get-pick.ensures

pub add_rule-requires-clause-unbarred : goal.add_rule-requires-clause-unbarred
add_rule-requires-clause-unbarred c = free_choice c.args.t.now c.args.draft.now c.args.plan.now c.requires.draft c.requires.plan c.get-pick.result.now (Contains_numbered c.args.plan.now.choices c.args.number c.get-pick.result.now c.get-pick.ensures)
