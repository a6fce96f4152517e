use Rattle.std.proofs.Common.{inl, inr, ◌∙◌, sym, ap}
use Rattle.std.specs.Option.{is_some}
use Rattle.std.specs.Prelude.{Contains}
use Rattle.fond_task.proofs.Lists.{Contains_numbered}
use Rattle.fond_policy.proofs.Walking.{added_grows, added_has}
use Rattle.fond_draft.proofs.Provided.{no_smaller}
use Rattle.fond_draft.proofs.Rules.{has_selected}
use Rattle.fond_draft.proofs.below.add_lower.Goals as goal

pub returns-then-get-rank-clause-provided : goal.returns-then-get-rank-clause-provided
returns-then-get-rank-clause-provided c = λ near.
    absurd (no_smaller c.args.t.now c.args.plan.now c.requires.plan c.args.state.now c.args.rank c.in-Some.number c.get.result.now c.in-Some.ensures c.get.ensures c.if-get-rank.true near)

pub returns-then-is_some-clause-provided : goal.returns-then-is_some-clause-provided
returns-then-is_some-clause-provided c = λ near.
    inl (inr (has_selected c.args.rules.now c.args.state.now (sym (c.is_some.ensures ∙ ap is_some c.select.ensures) ∙ c.if-is_some.true)))

pub returns-clause-grows : goal.returns-clause-grows
returns-clause-grows c = added_grows (λ state. Contains c.args.plan.now.states state) c.args.states.now c.add.new.self c.args.state.now c.in_ok-copy.field-0 c.in_ok-add.field-0 c.in_ok-copy.ensures c.in_ok-add.ensures.ok
    (Contains_numbered c.args.plan.now.states c.in-Some.number c.args.state.now c.in-Some.ensures)

pub returns-clause-provided : goal.returns-clause-provided
returns-clause-provided c = λ near.
    inr (added_has (λ state. Contains c.args.plan.now.states state) c.args.states.now c.add.new.self c.args.state.now c.in_ok-copy.field-0 c.in_ok-add.field-0 c.in_ok-copy.ensures c.in_ok-add.ensures.ok)
