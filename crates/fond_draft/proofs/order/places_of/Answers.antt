use Rattle.std.proofs.Common.{◌≡◌, ◌∙◌, ◌<◌, List, Bool, Some, [], ◌∷◌, ◌++◌, length, slice_get, refl, sym, ap, subst, ⊎_elim, arith}
use Rattle.std.specs.Prelude.{Contains}
use Rattle.std.proofs.lemmas.Bool.{cases_lt}
use Rattle.std.proofs.lemmas.List.Elements.{Contains-append_left, Contains-append_right, Contains-append_cases}
use Rattle.std.proofs.lemmas.Option.{same_Some, slice_get_within}
use Rattle.fond_task.proofs.Lists.{Contains_numbered, Contains-here, Contains-cases, number_of}
use Rattle.fond_explicit.specs.Answers.{ChoiceView}
use Rattle.fond_draft.specs.Places.{IsPlace}
use Rattle.fond_draft.specs.declared.order.Place.{Place}
use Rattle.fond_draft.proofs.Plans.{choice_of_state, one_choice}
use Rattle.fond_draft.proofs.order.places_of.Goals as goal

pub unreachable-requires : goal.unreachable-requires
unreachable-requires c = c.in_default.ensures (c.requires.listed c.get.result.now (Contains_numbered c.args.states.now c.loop-at.at c.get.result.now c.get.ensures))

pub get-requires-in-loop-at : goal.get-requires-in-loop-at
get-requires-in-loop-at c =
    let found = choice_of_state c.args.t.now c.args.plan.now c.requires.plan c.in-Some.number c.get.result.now c.in-Some.ensures in
    slice_get_within c.args.plan.now.choices c.in-Some.number found.0 found.1

pub loop-at-preserved : goal.loop-at-preserved
loop-at-preserved c =
    let task = c.args.t.now in
    let plan = c.args.plan.now in
    let choices = plan.choices in
    let states = c.args.states.now in
    let here = c.get.result.now in
    let number = c.in-Some.number in
    let own = c.get-in-loop-at.result.now in
    let k = c.loop-at.at in
    let last : Place = record { rank = own.rank; number = number } in
    let items = c.loop-at.places.items in
    let pushed = c.in_ok-push.ensures.items in
    let found = choice_of_state task plan c.requires.plan number here c.in-Some.ensures in
    let own_state : own.state ≡ here = ap (λ (x : ChoiceView). x.state) (same_Some own found.0 (sym c.get-in-loop-at.ensures ∙ found.1)) ∙ found.2 in
    record {
      each = λ place has. ⊎_elim
          (λ was. c.loop-at.invariant.each place was)
          (λ new. ⊎_elim
          (λ same. subst (IsPlace choices states) same
          (record { choice = own; numbered = c.get-in-loop-at.ensures; ranked = refl; here = subst (λ (s : List Bool). Contains states s) (sym own_state) (Contains_numbered states k here c.get.ensures) }))
          (λ never. absurd (omega (arith, never.1)))
          (Contains-cases place last [] new))
          (Contains-append_cases items (last ∷ []) place (subst (λ (ps : List Place). Contains ps place) pushed has));
      all = λ at other choice small is numbered. ⊎_elim
          (λ lt. subst (λ (ps : List Place). Contains ps (record { rank = choice.rank; number = other })) (sym pushed) (Contains-append_left items (last ∷ []) (record { rank = choice.rank; number = other }) (c.loop-at.invariant.all at other choice lt is numbered)))
          (λ ge.
          let same : k ≡ at = omega (arith, small, ge) in
          let there : here ≡ choice.state = same_Some here choice.state (sym c.get.ensures ∙ ap (slice_get states) same ∙ is) in
          let same_number : number ≡ other = one_choice task plan c.requires.plan number other choice (c.in-Some.ensures ∙ ap (λ s. Some s) there) numbered in
          let own_is : own ≡ choice = same_Some own choice (sym c.get-in-loop-at.ensures ∙ ap (slice_get choices) same_number ∙ numbered) in
          let last_is : last ≡ record { rank = choice.rank; number = other } = (λ i. record { rank = (own_is i).rank; number = same_number i }) in
          subst (λ (ps : List Place). Contains ps (record { rank = choice.rank; number = other })) (sym pushed)
          (subst (λ (p : Place). Contains (items ++ last ∷ []) p) last_is (Contains-append_right items (last ∷ []) last (Contains-here last []))))
          (cases_lt at k);
    }

pub returns-clause-each : goal.returns-clause-each
returns-clause-each c = c.loop-at.invariant.each

pub returns-clause-all : goal.returns-clause-all
returns-clause-all c = λ number choice is has.
    let states = c.args.states.now in
    let at = number_of states choice.state has in
    let within : at.0 < length states = slice_get_within states at.0 choice.state at.1 in
    c.loop-at.invariant.all at.0 number choice (omega (arith, within, c.loop-at-test.false, c.len-at-end.ensures.counted)) at.1 is
