use Rattle.std.proofs.Common.{◌∙◌, ◌<◌, [], length, get_or, slice_get, Some, ◌≡◌, subst, sym, ap, true, arith}
use Rattle.std.proofs.lemmas.Bool.{false≢true}
use Rattle.std.proofs.lemmas.Option.{same_Some, slice_get-get_or, slice_get_within}
use Rattle.fond_task.specs.Truth.{is_true}
use Rattle.fond_task.specs.declared.task.Act.{Act}
use Rattle.fond_draft.proofs.Ready.{reachable_long}
use Rattle.fond_planner.proofs.planner.Planner.set_out.Goals as goal

pub apply_into-requires-clause-long : goal.apply_into-requires-clause-long
apply_into-requires-clause-long g c =
    let outset = c.set_act.ensures.outset c.if-not-set_act.false in
    reachable_long c.args.self.now.task.now c.args.self.now.task.now.init c.args.self.now.task.now.init_long c.set_act.new.step.state outset.reachable

pub returns-then-not-set_act-clause-step : goal.returns-then-not-set_act-clause-step
returns-then-not-set_act-clause-step g c = λ e. absurd (false≢true e)

pub returns-then-not-set_act-clause-free : goal.returns-then-not-set_act-clause-free
returns-then-not-set_act-clause-free g c = λ e. absurd (false≢true e)

pub get-requires : goal.get-requires
get-requires g c =
    let outset = c.set_act.ensures.outset c.if-not-set_act.false in
    slice_get_within c.args.self.now.task.now.acts c.set_act.new.step.act outset.act outset.has_act

pub returns-then-outcome-len-clause-step : goal.returns-then-outcome-len-clause-step
returns-then-outcome-len-clause-step g c = λ e. absurd (false≢true e)

pub returns-then-outcome-len-clause-free : goal.returns-then-outcome-len-clause-free
returns-then-outcome-len-clause-free g c = λ e. absurd (false≢true e)

pub apply_into-requires-clause-out_long : goal.apply_into-requires-clause-out_long
apply_into-requires-clause-out_long g c = (c.set_act.ensures.outset c.if-not-set_act.false).long

pub apply_into-requires-clause-outcome_there : goal.apply_into-requires-clause-outcome_there
apply_into-requires-clause-outcome_there g c = λ a at.
    let same : a ≡ c.get.result.now = same_Some a c.get.result.now (sym at ∙ c.get.ensures) in
    subst (λ (a : Act). c.args.outcome < length a.outcomes) (sym same) (omega (arith, c.if-outcome-len.false, c.len.ensures ∙ ap length c.deref.ensures))

pub apply_into-requires-clause-applicable : goal.apply_into-requires-clause-applicable
apply_into-requires-clause-applicable g c = λ a at.
    let outset = c.set_act.ensures.outset c.if-not-set_act.false in
    let same : outset.act ≡ a = same_Some outset.act a (sym outset.has_act ∙ at) in
    subst (λ (a : Act). is_true c.set_act.new.step.state a.pre ≡ true) same outset.applicable

pub apply_into-requires-clause-there : goal.apply_into-requires-clause-there
apply_into-requires-clause-there g c =
    let outset = c.set_act.ensures.outset c.if-not-set_act.false in
    slice_get_within c.args.self.now.task.now.acts c.set_act.new.step.act outset.act outset.has_act

pub returns-clause-step : goal.returns-clause-step
returns-clause-step g c = λ yes.
    let outset = c.set_act.ensures.outset c.if-not-set_act.false in
    let own = c.get.result.now in
    let k = c.args.outcome in
    let same : own ≡ outset.act = same_Some own outset.act (sym c.get.ensures ∙ outset.has_act) in
    let lt : k < length own.outcomes = omega (arith, c.if-outcome-len.false, c.len.ensures ∙ ap length c.deref.ensures) in
    let mine = get_or own.outcomes k [] in
    let there : slice_get own.outcomes k ≡ Some mine = slice_get-get_or own.outcomes k [] lt in
    record {
      outset = record {
        reachable = outset.reachable;
        open_ = outset.open_;
        act = outset.act;
        has_act = outset.has_act;
        applicable = outset.applicable;
        long = c.apply_into.ensures.same_length ∙ outset.long;
      };
      entries = mine;
      has_outcome = subst (λ (a : Act). slice_get a.outcomes k ≡ Some mine) same there;
      led = c.apply_into.ensures.next own mine c.get.ensures there;
    }

pub returns-clause-free : goal.returns-clause-free
returns-clause-free g c = λ yes. c.set_act.ensures.free c.if-not-set_act.false
