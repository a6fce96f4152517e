use Rattle.std.proofs.Common.{◌≡◌, ◌∙◌, ◌<◌, ℕ, List, Bool, true, Some, [], length, get_or, slice_get, sym, ap, subst, ⊎_elim, arith}
use Rattle.std.specs.Prelude.{Contains}
use Rattle.std.proofs.lemmas.Bool.{cases_lt}
use Rattle.std.proofs.lemmas.Option.{same_Some, slice_get-get_or, slice_get_within}
use Rattle.fond_task.specs.Steps.{next_state}
use Rattle.fond_task.specs.Truth.{is_true}
use Rattle.fond_task.specs.declared.task.Act.{Act}
use Rattle.fond_policy.proofs.Walking.{few_outcomes, grows_none, grows_twice}
use Rattle.fond_task.proofs.Lists.{Contains_numbered, number_of}
use Rattle.fond_explicit.specs.Answers.{ChoiceView}
use Rattle.fond_draft.specs.Plans.{IsProvided}
use Rattle.fond_draft.proofs.Plans.{choice_applies, choice_long}
use Rattle.fond_draft.proofs.Provided.{provided_more}
use Rattle.fond_draft.proofs.below.add_nexts.Goals as goal

pub get-requires : goal.get-requires
get-requires c = slice_get_within c.args.t.now.acts c.get-pick.result.now.act _ (choice_applies c.args.t.now c.args.plan.now c.requires.plan c.args.number c.get-pick.result.now c.get-pick.ensures).numbered

pub overflow_cast-outcome : goal.overflow_cast-outcome
overflow_cast-outcome c =
    let few = few_outcomes c.args.t.now c.get-pick.result.now.act c.get.result.now c.get.ensures in
    omega (arith, few, c.loop-outcome-test.true, (c.len-outcome-end.ensures ∙ ap length c.deref.ensures))

pub apply_into-requires-clause-long : goal.apply_into-requires-clause-long
apply_into-requires-clause-long c = choice_long c.args.t.now c.args.plan.now c.requires.plan c.get-pick.result.now (Contains_numbered c.args.plan.now.choices c.args.number c.get-pick.result.now c.get-pick.ensures)

pub apply_into-requires-clause-applicable : goal.apply_into-requires-clause-applicable
apply_into-requires-clause-applicable c = λ act at.
    let applies = choice_applies c.args.t.now c.args.plan.now c.requires.plan c.args.number c.get-pick.result.now c.get-pick.ensures in
    subst (λ (a : Act). is_true c.get-pick.result.now.state a.pre ≡ true) (same_Some applies.act act (sym applies.numbered ∙ at)) applies.holds

pub loop-outcome-init : goal.loop-outcome-init
loop-outcome-init c = record {
  long = c.requires.next_long;
  grows = grows_none (Contains c.args.plan.now.states) c.args.states.now;
  all = λ act number entries at small. absurd (omega (arith, small));
}

pub loop-outcome-preserved : goal.loop-outcome-preserved
loop-outcome-preserved c =
    let task = c.args.t.now in
    let plan = c.args.plan.now in
    let pick = c.get-pick.result.now in
    let own = c.get.result.now in
    let k = c.loop-outcome.outcome in
    let lt : k < length own.outcomes = omega (arith, c.loop-outcome-test.true, (c.len-outcome-end.ensures ∙ ap length c.deref.ensures)) in
    let mine = get_or own.outcomes k [] in
    let there : slice_get own.outcomes k ≡ Some mine = slice_get-get_or own.outcomes k [] lt in
    let told = c.in_ok-add_lower.ensures in
    record {
      long = c.apply_into.ensures.same_length ∙ c.loop-outcome.invariant.long;
      grows = grows_twice (Contains plan.states) c.args.states.now c.loop-outcome.states c.add_lower.new.states c.loop-outcome.invariant.grows told.grows;
      all = λ act number entries at small is. ⊎_elim
          (λ lower. provided_more task c.args.rules.now plan.choices (Contains plan.states) c.loop-outcome.states c.add_lower.new.states pick.rank (next_state pick.state entries) told.grows (c.loop-outcome.invariant.all act number entries at lower is))
          (λ ge.
          let same : k ≡ number = omega (arith, small, ge) in
          let same_act : own ≡ act = same_Some own act (sym c.get.ensures ∙ at) in
          let same_one : mine ≡ entries = same_Some mine entries (sym there ∙ ap (λ (a : Act). slice_get a.outcomes k) same_act ∙ ap (slice_get act.outcomes) same ∙ is) in
          subst (λ (s : List Bool). IsProvided task c.args.rules.now plan.choices c.add_lower.new.states pick.rank s) (c.apply_into.ensures.next own mine c.get.ensures there ∙ ap (next_state pick.state) same_one) told.provided)
          (cases_lt number k);
    }

pub returns-clause-all : goal.returns-clause-all
returns-clause-all c = λ choice after numbered next.
    let task = c.args.t.now in
    let pick = c.get-pick.result.now in
    let own = c.get.result.now in
    let same : pick ≡ choice = same_Some pick choice (sym c.get-pick.ensures ∙ numbered) in
    let at = number_of next.act.outcomes next.outcome next.one in
    let acts : slice_get task.acts pick.act ≡ Some next.act = ap (λ (x : ChoiceView). slice_get task.acts x.act) same ∙ next.numbered in
    let within : at.0 < length next.act.outcomes = slice_get_within next.act.outcomes at.0 next.outcome at.1 in
    let count : length next.act.outcomes ≡ length own.outcomes = ap (λ (a : Act). length a.outcomes) (same_Some next.act own (sym acts ∙ c.get.ensures)) in
    let provided = c.loop-outcome.invariant.all next.act at.0 next.outcome acts (omega (arith, within, count, c.loop-outcome-test.false, (c.len-outcome-end.ensures ∙ ap length c.deref.ensures))) at.1 in
    let there : next_state pick.state next.outcome ≡ after = ap (λ (x : ChoiceView). next_state x.state next.outcome) same ∙ sym next.given in
    subst (λ (n : ℕ). IsProvided task c.args.rules.now c.args.plan.now.choices c.loop-outcome.states n after) (ap (λ (x : ChoiceView). x.rank) same)
    (subst (λ (s : List Bool). IsProvided task c.args.rules.now c.args.plan.now.choices c.loop-outcome.states pick.rank s) there provided)
