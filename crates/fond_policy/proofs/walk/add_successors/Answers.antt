use Rattle.std.proofs.Common.{◌≡◌, ◌∙◌, ◌<◌, List, Bool, length, Some, [], get_or, slice_get, sym, ap, subst, ⊎_elim, arith}
use Rattle.std.specs.Prelude.{Contains}
use Rattle.std.proofs.lemmas.Bool.{cases_lt}
use Rattle.std.proofs.lemmas.Option.{same_Some, slice_get-get_or, slice_get_within}
use Rattle.fond_task.specs.Steps.{next_state}
use Rattle.fond_task.specs.declared.task.Act.{Act}
use Rattle.fond_task.specs.Policies.{IsNext}
use Rattle.fond_task.proofs.Lists.{Contains_numbered, number_of}
use Rattle.fond_policy.proofs.Walking.{few_outcomes, grown_has, grows_twice, grows_weaker}
use Rattle.fond_policy.proofs.walk.add_successors.Goals as goal

pub overflow_cast-outcome : goal.overflow_cast-outcome
overflow_cast-outcome c =
    let few = few_outcomes c.args.t.now c.args.act c.get.result.now c.get.ensures in
    omega (arith, few, c.loop-outcome-test.true, (c.len-outcome-end.ensures ∙ ap length c.deref.ensures))

pub loop-outcome-preserved : goal.loop-outcome-preserved
loop-outcome-preserved c =
    let task = c.args.t.now in
    let state = c.args.state.now in
    let own = c.get.result.now in
    let k = c.loop-outcome.outcome in
    let lt : k < length own.outcomes = omega (arith, c.loop-outcome-test.true, (c.len-outcome-end.ensures ∙ ap length c.deref.ensures)) in
    let entries = get_or own.outcomes k [] in
    let there : slice_get own.outcomes k ≡ Some entries = slice_get-get_or own.outcomes k [] lt in
    let next : c.apply_into.new.out ≡ next_state state entries = c.apply_into.ensures.next own entries c.get.ensures there in
    let grown = c.in_ok-add.ensures.grows in
    record {
      long = c.apply_into.ensures.same_length ∙ c.loop-outcome.invariant.long;
      grows = grows_twice (IsNext task state c.args.act) _ c.loop-outcome.states c.add.new.states c.loop-outcome.invariant.grows
          (grows_weaker _ (IsNext task state c.args.act) c.loop-outcome.states c.add.new.states
          (λ added is. record { act = own; numbered = c.get.ensures; holds = c.requires.applicable own c.get.ensures; outcome = entries; one = Contains_numbered own.outcomes k entries there; given = is ∙ next }) grown);
      all = λ act number one at small is. ⊎_elim
          (λ lower. grown_has _ c.loop-outcome.states c.add.new.states grown (next_state state one) (c.loop-outcome.invariant.all act number one at lower is))
          (λ ge.
          let same : k ≡ number = omega (arith, small, ge) in
          let same_act : own ≡ act = same_Some own act (sym c.get.ensures ∙ at) in
          let same_one : entries ≡ one = same_Some entries one (sym there ∙ ap (λ (a : Act). slice_get a.outcomes k) same_act ∙ ap (slice_get act.outcomes) same ∙ is) in
          subst (λ (s : List Bool). Contains c.add.new.states s) (next ∙ ap (next_state state) same_one) c.in_ok-add.ensures.has)
          (cases_lt number k);
    }

pub returns-clause-all : goal.returns-clause-all
returns-clause-all c = λ after next.
    let own = c.get.result.now in
    let at = number_of next.act.outcomes next.outcome next.one in
    let within : at.0 < length next.act.outcomes = slice_get_within next.act.outcomes at.0 next.outcome at.1 in
    let same : length next.act.outcomes ≡ length own.outcomes = ap (λ (a : Act). length a.outcomes) (same_Some next.act own (sym next.numbered ∙ c.get.ensures)) in
    subst (λ (s : List Bool). Contains c.loop-outcome.states s) (sym next.given)
    (c.loop-outcome.invariant.all next.act at.0 next.outcome next.numbered (omega (arith, within, same, c.loop-outcome-test.false, (c.len-outcome-end.ensures ∙ ap length c.deref.ensures))) at.1)
