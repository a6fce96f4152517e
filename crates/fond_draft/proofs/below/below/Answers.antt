use Rattle.std.proofs.Common.{◌≡◌, ◌∙◌, List, Bool, [], sym, subst, ⊎_elim}
use Rattle.std.specs.Prelude.{Contains}
use Rattle.std.proofs.lemmas.Option.{same_Some}
use Rattle.fond_task.proofs.Lists.{Contains_numbered, Contains-here, Contains-cases}
use Rattle.fond_explicit.proofs.Distinct.{nothing_in}
use Rattle.fond_explicit.specs.Answers.{ChoiceView}
use Rattle.fond_draft.proofs.Plans.{state_of_choice}
use Rattle.fond_draft.proofs.below.below.Goals as goal

pub add_below-requires-clause-each : goal.add_below-requires-clause-each
add_below-requires-clause-each c = λ state has.
    let plan = c.args.plan.now in
    let own = c.get.result.now in
    ⊎_elim
    (λ (here : own.state ≡ state). subst (λ (s : List Bool). Contains plan.states s) here (Contains_numbered plan.states c.args.number own.state (state_of_choice c.args.t.now plan c.requires.plan c.args.number own c.get.ensures)))
    (λ later. absurd (nothing_in state later))
    (Contains-cases state own.state [] (subst (λ (states : List (List Bool)). Contains states state) c.in_ok-states.ensures has))

pub returns-clause-has : goal.returns-clause-has
returns-clause-has c = λ choice at.
    let own = c.get.result.now in
    subst (λ (x : ChoiceView). Contains c.add_below.new.states x.state) (same_Some own choice (sym c.get.ensures ∙ at))
    (c.in_ok-add_below.ensures.kept own.state (subst (λ (states : List (List Bool)). Contains states own.state) (sym c.in_ok-states.ensures) (Contains-here own.state [])))
