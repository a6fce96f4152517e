use Rattle.std.proofs.Common.{◌≡◌, ◌∙◌, ◌<◌, List, Bool, length, Some, [], get_or, slice_get, refl, sym, ap, subst, ⊎_elim, arith}
use Rattle.std.proofs.lemmas.Bool.{cases_lt, false≢true}
use Rattle.std.proofs.lemmas.Option.{same_Some, slice_get-get_or}
use Rattle.fond_task.specs.Steps.{next_state}
use Rattle.fond_task.specs.declared.task.Act.{Act}
use Rattle.fond_policy.proofs.Walking.{few_outcomes}
use Rattle.fond_task.proofs.Lists.{Contains_numbered}
use Rattle.fond_draft.specs.Targets.{IsCovered}
use Rattle.fond_draft.proofs.Turned.{of_all, turn_long, turn_there}
use Rattle.fond_draft.proofs.turn.is_some_covered.Goals as goal

pub overflow_cast-outcome : goal.overflow_cast-outcome
overflow_cast-outcome c =
    let few = few_outcomes c.args.t.now c.args.turn.now.act c.get.result.now c.get.ensures in
    omega (arith, few, c.loop-outcome-test.true, (c.len-outcome-end.ensures ∙ ap length c.deref.ensures))

pub apply_into-requires-clause-long : goal.apply_into-requires-clause-long
apply_into-requires-clause-long c = turn_long c.args.t.now c.args.turn.now c.requires.turn

pub apply_into-requires-clause-there : goal.apply_into-requires-clause-there
apply_into-requires-clause-there c = turn_there c.args.t.now c.args.turn.now c.requires.turn

pub returns-then-is_covered-clause-covered : goal.returns-then-is_covered-clause-covered
returns-then-is_covered-clause-covered c = λ yes act at.
    let own = c.get.result.now in
    let k = c.loop-outcome.outcome in
    let same : own ≡ act = same_Some own act (sym c.get.ensures ∙ at) in
    let lt : k < length own.outcomes = omega (arith, c.loop-outcome-test.true, (c.len-outcome-end.ensures ∙ ap length c.deref.ensures)) in
    let entries = get_or own.outcomes k [] in
    let there : slice_get own.outcomes k ≡ Some entries = slice_get-get_or own.outcomes k [] lt in (
      entries,
      Contains_numbered act.outcomes k entries (subst (λ (a : Act). slice_get a.outcomes k ≡ Some entries) same there),
      subst (λ (s : List Bool). IsCovered c.args.t.now c.args.rules.now s) (c.apply_into.ensures.next own entries c.get.ensures there) (c.if-is_covered.ensures.0 refl),
    )

pub loop-outcome-preserved : goal.loop-outcome-preserved
loop-outcome-preserved c = record {
  long = c.apply_into.ensures.same_length ∙ c.loop-outcome.invariant.long;
  none = λ act number entries at small is. ⊎_elim
      (λ lt. c.loop-outcome.invariant.none act number entries at lt is)
      (λ ge covered.
      let same : number ≡ c.loop-outcome.outcome = omega (arith, small, ge) in
      let here : slice_get act.outcomes c.loop-outcome.outcome ≡ Some entries = ap (slice_get act.outcomes) (sym same) ∙ is in
      false≢true (c.if-is_covered.ensures.1 (subst (λ (s : List Bool). IsCovered c.args.t.now c.args.rules.now s) (sym (c.apply_into.ensures.next act entries at here)) covered)))
      (cases_lt number c.loop-outcome.outcome);
}

pub returns-clause-none : goal.returns-clause-none
returns-clause-none c = λ no act entries at has.
    let all : length c.get.result.now.outcomes ≡ length act.outcomes = ap (λ (a : Act). length a.outcomes) (same_Some c.get.result.now act (sym c.get.ensures ∙ at)) in
    of_all (λ entries. ¬ IsCovered c.args.t.now c.args.rules.now (next_state c.args.turn.now.state entries)) act.outcomes c.loop-outcome.outcome (omega (arith, all, c.loop-outcome-test.false, (c.len-outcome-end.ensures ∙ ap length c.deref.ensures)))
    (λ number one. c.loop-outcome.invariant.none act number one at) entries has
