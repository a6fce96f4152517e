use Rattle.std.proofs.Common.{Some, sym, ap, ◌∙◌, subst}
use Rattle.std.proofs.lemmas.Bool.{MatchBool-at_true, MatchBool-at_false, true≢false}
use Rattle.fond_explicit.specs.Filings.{AreCandidates}
use Rattle.fond_explicit.proofs.Opened.{goal_opened, kept_open, state_opened, state_past}
use Rattle.fond_explicit.proofs.opening.open_next.Goals as goal

pub returns-then-is_goal-clause-keeps : goal.returns-then-is_goal-clause-keeps
returns-then-is_goal-clause-keeps c = λ from now.
    let here = c.get.ensures ∙ ap (λ s. Some s) (sym c.in_ok-state.ensures) in
    goal_opened c.args.t.now from c.args.space.now now c.in_ok-state.state here (sym c.is_goal.ensures ∙ c.if-is_goal.true)

pub returns-then-not-branch-clause-keeps : goal.returns-then-not-branch-clause-keeps
returns-then-not-branch-clause-keeps c = λ from now.
    let here = c.get.ensures ∙ ap (λ s. Some s) (sym c.in_ok-state.ensures) in
    kept_open c.args.t.now from c.args.space.now now c.in_ok-state.state here c.open_acts.new.space c.in_ok-open_acts.ensures.opening

pub returns-then-not-branch-clause-past : goal.returns-then-not-branch-clause-past
returns-then-not-branch-clause-past c = λ is from now.
    let here = c.get.ensures ∙ ap (λ s. Some s) (sym c.in_ok-state.ensures) in
    state_past c.args.t.now from c.args.space.now now c.in_ok-state.state here c.open_acts.new.space c.in_ok-open_acts.ensures.opening c.args.budget
    (λ goal. true≢false (sym goal ∙ sym c.is_goal.ensures ∙ c.if-is_goal.false)) (MatchBool-at_false _ _ c.if-not-branch.true c.in_ok-open_acts.ensures.room)

pub returns-clause-keeps : goal.returns-clause-keeps
returns-clause-keeps c = λ from now.
    let here = c.get.ensures ∙ ap (λ s. Some s) (sym c.in_ok-state.ensures) in
    state_opened c.args.t.now from c.args.space.now now c.in_ok-state.state here c.open_acts.new.space c.in_ok-open_acts.ensures.opening (MatchBool-at_true _ _ c.if-not-branch.false c.in_ok-open_acts.ensures.room)

pub is_goal-requires : goal.is_goal-requires
is_goal-requires c =
    let here = c.get.ensures ∙ ap (λ s. Some s) (sym c.in_ok-state.ensures) in
    c.requires.space.1.long c.args.space.now.opened c.in_ok-state.state here

pub candidates-requires : goal.candidates-requires
candidates-requires c = c.requires.index

pub open_acts-requires-clause-long : goal.open_acts-requires-clause-long
open_acts-requires-clause-long c =
    let here = c.get.ensures ∙ ap (λ s. Some s) (sym c.in_ok-state.ensures) in
    c.requires.space.1.long c.args.space.now.opened c.in_ok-state.state here

pub open_acts-requires-clause-here : goal.open_acts-requires-clause-here
open_acts-requires-clause-here c = c.get.ensures ∙ ap (λ s. Some s) (sym c.in_ok-state.ensures)

pub open_acts-requires-clause-no_goal : goal.open_acts-requires-clause-no_goal
open_acts-requires-clause-no_goal c = λ goal. true≢false (sym goal ∙ sym c.is_goal.ensures ∙ c.if-is_goal.false)

pub open_acts-requires-clause-candidates : goal.open_acts-requires-clause-candidates
open_acts-requires-clause-candidates c = subst (AreCandidates c.args.t.now c.in_ok-state.state) (sym c.as_slice.ensures.value) c.in_ok-candidates.ensures

pub returns-then-is_goal-clause-past : goal.returns-then-is_goal-clause-past
returns-then-is_goal-clause-past c = λ is. absurd (true≢false is)

pub returns-clause-past : goal.returns-clause-past
returns-clause-past c = λ is. absurd (true≢false is)

pub returns-then-not-branch-clause-opened : goal.returns-then-not-branch-clause-opened
returns-then-not-branch-clause-opened c = λ is. absurd (true≢false (sym is))
