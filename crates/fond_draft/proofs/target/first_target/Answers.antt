use Rattle.std.proofs.Common.{◌≡◌, ◌∙◌, ◌<◌, List, Bool, length, Some, [], get_or, slice_get, sym, ap, subst, ⊎_elim, arith}
use Rattle.std.proofs.lemmas.Bool.{cases_lt}
use Rattle.std.proofs.lemmas.Option.{same_Some, slice_get-get_or, slice_get_within}
use Rattle.fond_task.specs.declared.task.Act.{Act}
use Rattle.fond_policy.proofs.Walking.{few_outcomes}
use Rattle.fond_task.proofs.Lists.{number_of}
use Rattle.fond_draft.specs.Targets.{IsCovered, LeadsOn}
use Rattle.fond_draft.proofs.target.first_target.Goals as goal

pub overflow_cast-outcome : goal.overflow_cast-outcome
overflow_cast-outcome c =
    let few = few_outcomes c.args.t.now c.args.act c.get.result.now c.get.ensures in
    omega (arith, few, c.loop-outcome-test.true, (c.len-outcome-end.ensures ∙ ap length c.deref.ensures))

pub overflow_cast-result : goal.overflow_cast-result
overflow_cast-result c =
    let few = few_outcomes c.args.t.now c.args.act c.get.result.now c.get.ensures in
    omega (arith, few, c.loop-outcome-test.true, (c.len-outcome-end.ensures ∙ ap length c.deref.ensures))

pub returns-in-Some-clause-targets : goal.returns-in-Some-clause-targets
returns-in-Some-clause-targets c = λ act at fair.
    let own = c.get.result.now in
    let k = c.loop-outcome.outcome in
    let same : own ≡ act = same_Some own act (sym c.get.ensures ∙ at) in
    let lt : k < length own.outcomes = omega (arith, c.loop-outcome-test.true, (c.len-outcome-end.ensures ∙ ap length c.deref.ensures)) in
    let entries = get_or own.outcomes k [] in
    let there : slice_get own.outcomes k ≡ Some entries = slice_get-get_or own.outcomes k [] lt in (
      fair,
      (
        entries,
        subst (λ (a : Act). slice_get a.outcomes k ≡ Some entries) same there,
        subst (λ (s : List Bool). LeadsOn c.args.t.now c.args.rules.now s c.in-Some.target) (c.apply_into.ensures.next own entries c.get.ensures there) c.in-Some.ensures,
      ),
    )

pub loop-outcome-preserved : goal.loop-outcome-preserved
loop-outcome-preserved c = record {
  long = c.apply_into.ensures.same_length ∙ c.loop-outcome.invariant.long;
  none = λ act number entries at small is is_covered. ⊎_elim
      (λ lt. c.loop-outcome.invariant.none act number entries at lt is is_covered)
      (λ ge.
      let same : number ≡ c.loop-outcome.outcome = omega (arith, small, ge) in
      let here : slice_get act.outcomes c.loop-outcome.outcome ≡ Some entries = ap (slice_get act.outcomes) (sym same) ∙ is in
      c.in_default.ensures (subst (λ (s : List Bool). IsCovered c.args.t.now c.args.rules.now s) (sym (c.apply_into.ensures.next act entries at here)) is_covered))
      (cases_lt number c.loop-outcome.outcome);
}

pub unreachable-requires : goal.unreachable-requires
unreachable-requires c =
    let own = c.get.result.now in
    let some = c.requires.some own c.get.ensures in
    let at = number_of own.outcomes some.0 some.1 in
    let within : at.0 < length own.outcomes = slice_get_within own.outcomes at.0 some.0 at.1 in
    c.loop-outcome.invariant.none own at.0 some.0 c.get.ensures (omega (arith, within, c.loop-outcome-test.false, (c.len-outcome-end.ensures ∙ ap length c.deref.ensures))) at.1 some.2
