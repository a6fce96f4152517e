use Rattle.std.proofs.Common.{◌≡◌, ◌∙◌, List, Bool, Some, length, slice_get, sym, ap, ⊎_elim, arith}
use Rattle.std.specs.Prelude.{Contains}
use Rattle.std.proofs.lemmas.Bool.{cases_lt}
use Rattle.std.proofs.lemmas.Option.{same_Some, slice_get_within}
use Rattle.fond_policy.proofs.Walking.{grown_at, grown_cases, grown_has, grown_keeps}
use Rattle.fond_task.proofs.Lists.{Contains_numbered, number_of}
use Rattle.fond_draft.proofs.Plans.{choice_of_state, one_choice}
use Rattle.fond_draft.proofs.Provided.{provided_more}
use Rattle.fond_draft.proofs.below.add_below.Goals as goal

pub unreachable-requires : goal.unreachable-requires
unreachable-requires c = c.in_default.ensures (c.loop-at.invariant.each c.get.result.now (Contains_numbered c.loop-at.states c.loop-at.at c.get.result.now c.get.ensures))

pub loop-at-init : goal.loop-at-init
loop-at-init c = record {
  next_long = ap length c.in_ok-next.ensures ∙ c.args.t.now.init_long;
  done = omega arith;
  each = c.requires.each;
  kept = λ state has. has;
  closed = λ k choice after small. absurd (omega (arith, small));
}

pub add_nexts-requires-clause-there : goal.add_nexts-requires-clause-there
add_nexts-requires-clause-there c =
    let one = choice_of_state c.args.t.now c.args.plan.now c.requires.plan c.in-Some.listed c.get.result.now c.in-Some.ensures in
    slice_get_within c.args.plan.now.choices c.in-Some.listed one.0 one.1

pub loop-at-preserved : goal.loop-at-preserved
loop-at-preserved c =
    let task = c.args.t.now in
    let plan = c.args.plan.now in
    let old = c.loop-at.states in
    let new = c.add_nexts.new.states in
    let at = c.loop-at.at in
    let own = c.get.result.now in
    let told = c.in_ok-add_nexts.ensures in
    let inv = c.loop-at.invariant in
    let Listed : List Bool → Type 0 = Contains plan.states in
    let one = choice_of_state task plan c.requires.plan c.in-Some.listed own c.in-Some.ensures in
    let within = slice_get_within old at own c.get.ensures in
    let kept = slice_get_within new at own (grown_keeps Listed old new told.grows at own c.get.ensures) in
    record {
      next_long = told.same_length ∙ inv.next_long;
      done = omega (arith, kept);
      each = λ state has. ⊎_elim (λ was. inv.each state was) (λ is. is) (grown_cases Listed old new told.grows state has);
      kept = λ state was. grown_has Listed old new told.grows state (inv.kept state was);
      closed = λ k choice after small is has next. ⊎_elim
          (λ lt. provided_more task c.args.rules.now plan.choices Listed old new choice.rank after told.grows
          (inv.closed k choice after lt (grown_at Listed old new told.grows k choice.state (omega (arith, lt, within)) is) has next))
          (λ ge.
          let same : k ≡ at = omega (arith, small, ge) in
          let here : own ≡ choice.state = same_Some own choice.state (sym (grown_keeps Listed old new told.grows at own c.get.ensures) ∙ ap (slice_get new) (sym same) ∙ is) in
          let mine = number_of plan.choices choice has in
          let same_number : c.in-Some.listed ≡ mine.0 = one_choice task plan c.requires.plan c.in-Some.listed mine.0 choice (c.in-Some.ensures ∙ ap (λ s. Some s) here) mine.1 in
          told.all choice after (ap (slice_get plan.choices) same_number ∙ mine.1) next)
          (cases_lt k at);
    }

pub returns-clause-below : goal.returns-clause-below
returns-clause-below c = record {
  each = c.loop-at.invariant.each;
  closed = λ choice one has after next.
      let at = number_of c.loop-at.states choice.state has in
      let within = slice_get_within c.loop-at.states at.0 choice.state at.1 in
      c.loop-at.invariant.closed at.0 choice after (omega (arith, within, c.loop-at-test.false, c.len.ensures.counted)) at.1 one next;
}

pub returns-clause-kept : goal.returns-clause-kept
returns-clause-kept c = c.loop-at.invariant.kept
