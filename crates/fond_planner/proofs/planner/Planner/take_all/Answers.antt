use Rattle.std.proofs.Common.{◌≡◌, ◌∙◌, ◌<◌, ℕ, List, Bool, Some, [], true, length, get_or, slice_get, sym, ap, subst, arith}
use Rattle.std.proofs.lemmas.Option.{same_Some, slice_get-get_or, slice_get_within}
use Rattle.fond_task.specs.Truth.{is_true}
use Rattle.fond_task.specs.declared.task.Act.{Act}
use Rattle.fond_policy.proofs.Walking.{few_outcomes}
use Rattle.fond_task.specs.Policies.{IsGoal}
use Rattle.fond_task.specs.declared.rule.Pair.{Pair}
use Rattle.fond_regress.specs.Barred.{IsBarred}
use Rattle.fond_explicit.specs.Answers.{IsReachable}
use Rattle.fond_draft.proofs.Ready.{reachable_long}
use Rattle.fond_planner.proofs.Kept.{step_on}
use Rattle.fond_planner.proofs.planner.Planner.take_all.Goals as goal

pub overflow_cast-step-in-loop-outcome : goal.overflow_cast-step-in-loop-outcome
overflow_cast-step-in-loop-outcome g c =
    let few = few_outcomes c.args.self.now.task.now c.args.step.now.act c.get.result.now c.get.ensures in
    omega (arith, few, c.loop-outcome-test.true, (c.len-outcome-end.ensures ∙ ap length c.deref.ensures))

pub apply_into-requires-clause-long : goal.apply_into-requires-clause-long
apply_into-requires-clause-long g c = ap length c.loop-outcome.invariant.state ∙ reachable_long c.args.self.now.task.now c.args.self.now.task.now.init c.args.self.now.task.now.init_long c.args.step.now.state c.requires.outset.reachable

pub get-requires : goal.get-requires
get-requires g c = slice_get_within c.args.self.now.task.now.acts c.args.step.now.act c.requires.outset.act c.requires.outset.has_act

pub apply_into-requires-clause-out_long : goal.apply_into-requires-clause-out_long
apply_into-requires-clause-out_long g c = c.loop-outcome.invariant.long ∙ c.requires.outset.long

pub apply_into-requires-clause-outcome_there : goal.apply_into-requires-clause-outcome_there
apply_into-requires-clause-outcome_there g c = λ a at.
    let here : slice_get c.args.self.now.task.now.acts c.loop-outcome.step.act ≡ Some c.get.result.now = ap (slice_get c.args.self.now.task.now.acts) c.loop-outcome.invariant.act ∙ c.get.ensures in
    let same : c.get.result.now ≡ a = same_Some c.get.result.now a (sym here ∙ at) in
    subst (λ (a : Act). c.loop-outcome.outcome < length a.outcomes) same (omega (arith, c.loop-outcome-test.true, (c.len-outcome-end.ensures ∙ ap length c.deref.ensures)))

pub apply_into-requires-clause-applicable : goal.apply_into-requires-clause-applicable
apply_into-requires-clause-applicable g c = λ a at.
    let inv = c.loop-outcome.invariant in
    let outset = c.requires.outset in
    let same : outset.act ≡ a = same_Some outset.act a (sym (ap (slice_get c.args.self.now.task.now.acts) inv.act ∙ outset.has_act) ∙ at) in
    subst (λ (a : Act). is_true c.loop-outcome.step.state a.pre ≡ true) same
    (subst (λ (s : List Bool). is_true s outset.act.pre ≡ true) (sym inv.state) outset.applicable)

pub apply_into-requires-clause-there : goal.apply_into-requires-clause-there
apply_into-requires-clause-there g c =
    subst (λ (n : ℕ). n < length c.args.self.now.task.now.acts) (sym c.loop-outcome.invariant.act) (slice_get_within c.args.self.now.task.now.acts c.args.step.now.act c.requires.outset.act c.requires.outset.has_act)

pub take-requires-clause-step : goal.take-requires-clause-step
take-requires-clause-step g c =
    let task = c.args.self.now.task.now in
    let outset = c.requires.outset in
    let inv = c.loop-outcome.invariant in
    let own = c.get.result.now in
    let k = c.loop-outcome.outcome in
    let same : own ≡ outset.act = same_Some own outset.act (sym c.get.ensures ∙ outset.has_act) in
    let lt : k < length own.outcomes = omega (arith, c.loop-outcome-test.true, (c.len-outcome-end.ensures ∙ ap length c.deref.ensures)) in
    let mine = get_or own.outcomes k [] in
    let there : slice_get own.outcomes k ≡ Some mine = slice_get-get_or own.outcomes k [] lt in
    let here : slice_get task.acts c.loop-outcome.step.act ≡ Some own = ap (slice_get task.acts) inv.act ∙ c.get.ensures in
    step_on inv.keeps _ (record {
      outset = record {
        reachable = subst (IsReachable task task.init) (sym inv.state) outset.reachable;
        open_ = subst (λ (s : List Bool). ¬ IsGoal task s) (sym inv.state) outset.open_;
        act = outset.act;
        has_act = ap (slice_get task.acts) inv.act ∙ outset.has_act;
        applicable = subst (λ (s : List Bool). is_true s outset.act.pre ≡ true) (sym inv.state) outset.applicable;
        long = c.apply_into.ensures.same_length ∙ inv.long ∙ outset.long;
      };
      entries = mine;
      has_outcome = subst (λ (a : Act). slice_get a.outcomes k ≡ Some mine) same there;
      led = c.apply_into.ensures.next own mine here there;
    })

pub take-requires-clause-free : goal.take-requires-clause-free
take-requires-clause-free g c =
    let inv = c.loop-outcome.invariant in
    subst (λ (pairs : List Pair). ¬ IsBarred pairs c.loop-outcome.step.act c.loop-outcome.step.state) (sym inv.keeps.pairs)
    (subst (λ (act : ℕ). ¬ IsBarred c.args.self.now.draft.pairs act c.loop-outcome.step.state) (sym inv.act)
    (subst (λ (state : List Bool). ¬ IsBarred c.args.self.now.draft.pairs c.args.step.now.act state) (sym inv.state) c.requires.free))
