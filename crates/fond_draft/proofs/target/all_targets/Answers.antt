use Rattle.std.proofs.Common.{◌≡◌, ◌∙◌, ◌+◌, ◌<◌, List, Bool, length, Some, [], ◌∷◌, get_or, slice_get, length-append, sym, ap, subst, ⊎_elim, arith}
use Rattle.std.proofs.lemmas.Option.{slice_get-get_or}
use Rattle.fond_policy.proofs.Walking.{few_outcomes}
use Rattle.fond_task.proofs.Lists.{Contains_numbered}
use Rattle.fond_draft.specs.Targets.{IsCovered, LeadsOn}
use Rattle.fond_draft.proofs.Lists.{push_cases}
use Rattle.fond_task.specs.declared.rule.Target.{Target}
use Rattle.fond_draft.proofs.target.all_targets.Goals as goal

pub overflow_cast-outcome : goal.overflow_cast-outcome
overflow_cast-outcome c =
    let few = few_outcomes c.args.t.now c.args.act c.get.result.now c.get.ensures in
    omega (arith, few, c.loop-outcome-test.true, (c.len-outcome-end.ensures ∙ ap length c.deref.ensures))

pub unreachable-requires : goal.unreachable-requires
unreachable-requires c =
    let own = c.get.result.now in
    let k = c.loop-outcome.outcome in
    let lt : k < length own.outcomes = omega (arith, c.loop-outcome-test.true, (c.len-outcome-end.ensures ∙ ap length c.deref.ensures)) in
    let entries = get_or own.outcomes k [] in
    let there : slice_get own.outcomes k ≡ Some entries = slice_get-get_or own.outcomes k [] lt in
    c.in_default.ensures (subst (λ (s : List Bool). IsCovered c.args.t.now c.args.rules.now s) (sym (c.apply_into.ensures.next own entries c.get.ensures there))
    (c.requires.each own entries c.get.ensures (Contains_numbered own.outcomes k entries there)))

pub loop-outcome-preserved : goal.loop-outcome-preserved
loop-outcome-preserved c = record {
  long = c.apply_into.ensures.same_length ∙ c.loop-outcome.invariant.long;
  count = ap length c.in_ok-push.ensures.ok ∙ length-append c.loop-outcome.targets (c.in-Some.target ∷ []) ∙ ap (λ n. n + 1) c.loop-outcome.invariant.count;
  each = λ act at target entries numbered is also. ⊎_elim
      (λ was. c.loop-outcome.invariant.each act at target entries numbered was also)
      (λ last.
      let here : slice_get act.outcomes c.loop-outcome.outcome ≡ Some entries = ap (slice_get act.outcomes) (sym (last.0 ∙ c.loop-outcome.invariant.count)) ∙ also in
      subst (λ (s : List Bool). LeadsOn c.args.t.now c.args.rules.now s target) (c.apply_into.ensures.next act entries numbered here)
      (subst (λ (t : Target). LeadsOn c.args.t.now c.args.rules.now c.apply_into.new.out t) last.1 c.in-Some.ensures))
      (push_cases c.loop-outcome.targets c.in-Some.target at target (sym (ap (λ (ts : List Target). slice_get ts at) c.in_ok-push.ensures.ok) ∙ is));
}
