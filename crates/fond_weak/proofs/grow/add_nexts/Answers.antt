use Rattle.std.proofs.Common.{◌≡◌, ◌<◌, List, Bool, [], length, get_or, slice_get, sym, ap, ◌∙◌, subst, ⊎_elim, arith}
use Rattle.std.specs.Prelude.{Contains}
use Rattle.std.proofs.lemmas.Bool.{cases_lt}
use Rattle.std.proofs.lemmas.Option.{same_Some, slice_get-get_or, slice_get_within}
use Rattle.fond_task.specs.declared.task.Act.{Act}
use Rattle.fond_task.specs.Steps.{next_state}
use Rattle.fond_task.proofs.Lists.{number_of}
use Rattle.fond_explicit.proofs.Grown.{few_outcomes}
use Rattle.fond_weak.proofs.Found.{more_none, more_then, more_has, more_stays}
use Rattle.fond_weak.proofs.grow.add_nexts.Goals as goal

pub overflow_cast-step : goal.overflow_cast-step
overflow_cast-step c = omega (arith, few_outcomes c.args.setting.now.task.now c.args.act c.get.result.now c.get.ensures, c.loop-outcome-test.true, (c.len-outcome-end.ensures ∙ ap length c.deref.ensures))

pub add_state-requires-clause-leads : goal.add_state-requires-clause-leads
add_state-requires-clause-leads c =
    let act = c.get.result.now in
    let k = c.loop-outcome.outcome in
    let within : k < length act.outcomes = omega (arith, c.loop-outcome-test.true, (c.len-outcome-end.ensures ∙ ap length c.deref.ensures)) in
    let entries = get_or act.outcomes k [] in
    let has = slice_get-get_or act.outcomes k [] within in
    let here = more_stays c.args.tree.now.states c.loop-outcome.tree.states c.loop-outcome.invariant.more c.args.node.now.number c.args.node.now.state c.requires.here in
    record {
      earlier = slice_get_within c.loop-outcome.tree.states c.args.node.now.number c.args.node.now.state here;
      before = c.args.node.now.state;
      has_before = here;
      open_ = c.requires.open_;
      taken = record { act = act; has_act = c.get.ensures; applicable = c.requires.applicable act c.get.ensures; free = c.requires.free; entries = entries; has_outcome = has; led = c.apply_into.ensures.next act entries c.get.ensures has };
    }

pub loop-outcome-preserved : goal.loop-outcome-preserved
loop-outcome-preserved c =
    let state = c.args.node.now.state in
    let old = c.loop-outcome.tree.states in
    let new = c.add_state.new.tree.states in
    let k = c.loop-outcome.outcome in
    let before = c.loop-outcome.invariant in
    let more = c.in_ok-add_state.ensures.more in
    record {
      next_long = c.apply_into.ensures.same_length ∙ before.next_long;
      tree = c.in_ok-add_state.ensures.tree;
      more = more_then c.args.tree.now.states old new before.more more;
      stays = λ a number entries at small has. ⊎_elim
          (λ early. more_has old new more (next_state state entries) (before.stays a number entries at early has))
          (λ late.
          let same : k ≡ number = omega (arith, small, late) in
          let led = c.apply_into.ensures.next a entries at (ap (slice_get a.outcomes) same ∙ has) in
          subst (λ (s : List Bool). Contains new s) led c.in_ok-add_state.ensures.has)
          (cases_lt number k);
    }

pub returns-clause-stays : goal.returns-clause-stays
returns-clause-stays c = λ a at entries one.
    let k = number_of a.outcomes entries one in
    let same : c.get.result.now ≡ a = same_Some c.get.result.now a (sym c.get.ensures ∙ at) in
    let within = slice_get_within a.outcomes k.0 entries k.1 in
    c.loop-outcome.invariant.stays a k.0 entries at (omega (arith, within, c.loop-outcome-test.false, (c.len-outcome-end.ensures ∙ ap length c.deref.ensures), ap (λ (x : Act). length x.outcomes) same)) k.1

pub loop-outcome-init : goal.loop-outcome-init
loop-outcome-init c = record { next_long = c.requires.next_long; tree = c.requires.tree; more = more_none c.args.tree.now.states; stays = λ a number entries at small. absurd (omega (arith, small)) }
