use Rattle.std.proofs.Common.{◌≡◌, ◌∙◌, ◌<◌, length, slice_get, Some, refl, sym, subst, ⊎_elim}
use Rattle.std.proofs.lemmas.List.Elements.{Contains-push_cases}
use Rattle.std.proofs.lemmas.Option.{same_Some, slice_get_within}
use Rattle.std.specs.Prelude.{Contains}
use Rattle.fond_task.specs.declared.task.Act.{Act}
use Rattle.fond_explicit.specs.Answers.{ChoiceView, IsReachable}
use Rattle.fond_draft.specs.Turns.{IsTurn, LeadsFrom}
use Rattle.fond_draft.proofs.Turned.{reached_long, turn_next, turn_of}
use Rattle.fond_draft.proofs.replay.replay_on.Goals as goal

pub leads_on-requires : goal.leads_on-requires
leads_on-requires c = reached_long c.args.t.now c.loop-step.state c.loop-step.invariant.reachable

pub apply_into-requires-clause-long : goal.apply_into-requires-clause-long
apply_into-requires-clause-long c = reached_long c.args.t.now c.loop-step.state c.loop-step.invariant.reachable

pub apply_into-requires-clause-there : goal.apply_into-requires-clause-there
apply_into-requires-clause-there c =
    let leads : LeadsFrom c.args.t.now c.loop-step.state c.in-Some.step.now = c.if-not-leads_on.ensures.0 refl in
    slice_get_within c.args.t.now.acts c.in-Some.step.now.act leads.act leads.has_act

pub apply_into-requires-clause-outcome_there : goal.apply_into-requires-clause-outcome_there
apply_into-requires-clause-outcome_there c = λ act at.
    let leads : LeadsFrom c.args.t.now c.loop-step.state c.in-Some.step.now = c.if-not-leads_on.ensures.0 refl in
    let k = c.in-Some.step.now.outcome in
    subst (λ (a : Act). k < length a.outcomes) (same_Some leads.act act (sym leads.has_act ∙ at)) (slice_get_within leads.act.outcomes k leads.entries leads.has_outcome)

pub copy_from-requires : goal.copy_from-requires
copy_from-requires c = reached_long c.args.t.now c.loop-step.state c.loop-step.invariant.reachable ∙ sym (c.apply_into.ensures.same_length ∙ c.loop-step.invariant.long)

pub loop-step-preserved : goal.loop-step-preserved
loop-step-preserved c =
    let task = c.args.t.now in
    let state = c.loop-step.state in
    let step = c.in-Some.step.now in
    let leads : LeadsFrom task state step = c.if-not-leads_on.ensures.0 refl in
    let here = c.loop-step.invariant.reachable in
    let own : ChoiceView = record { state = state; act = step.act; rank = 0 } in
    let copied : ChoiceView = record { state = c.in_ok-copy.field-0; act = step.act; rank = 0 } in
    let next = turn_next task own (turn_of task state state step 0 here leads refl) step.outcome c.apply_into.new.out (λ act at.
    let same = same_Some leads.act act (sym leads.has_act ∙ at) in
    let there = subst (λ (a : Act). slice_get a.outcomes step.outcome ≡ Some leads.entries) same leads.has_outcome in
    (leads.entries, there, c.apply_into.ensures.next act leads.entries at there)) in
    record {
      reachable = subst (IsReachable task task.init) (sym c.copy_from.ensures) next;
      long = c.apply_into.ensures.same_length ∙ c.loop-step.invariant.long;
      turns = λ turn has. ⊎_elim
          (λ was. c.loop-step.invariant.turns turn was)
          (λ (same : copied ≡ turn). subst (IsTurn task) same (turn_of task state c.in_ok-copy.field-0 step 0 here leads c.in_ok-copy.ensures))
          (Contains-push_cases c.loop-step.turns copied turn (subst (λ turns. Contains turns turn) c.in_ok-push.ensures.ok has));
    }
