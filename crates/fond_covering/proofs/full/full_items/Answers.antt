use Rattle.std.proofs.Common.{◌∙◌, ◌+◌, length, slice_get, sym, ap, subst, ⊎_elim}
use Rattle.std.proofs.lemmas.Option.{slice_get_within}
use Rattle.fond_task.specs.Policies.{selected}
use Rattle.fond_task.proofs.Lists.{Contains_numbered}
use Rattle.fond_task.proofs.Reached.{reached_long}
use Rattle.fond_covering.specs.Full.{IsFullItem}
use Rattle.fond_covering.proofs.Appended.{old_or_last, one_longer}
use Rattle.fond_covering.proofs.full.full_items.Goals as goal

pub full_item-requires-clause-long : goal.full_item-requires-clause-long
full_item-requires-clause-long c =
    let state = c.get-state.result.now in
    reached_long c.args.t.now (selected c.args.rules.now) state (c.requires.walk.reached state (Contains_numbered c.args.states.now c.loop-number.number state c.get-state.ensures))

pub full_item-requires-clause-closed : goal.full_item-requires-clause-closed
full_item-requires-clause-closed c =
    let state = c.get-state.result.now in
    c.requires.walk.closed c.loop-number.number state (slice_get_within c.args.states.now c.loop-number.number state c.get-state.ensures) c.get-state.ensures

pub full_item-requires-clause-ruled : goal.full_item-requires-clause-ruled
full_item-requires-clause-ruled c =
    let state = c.get-state.result.now in
    c.requires.ruled state (c.requires.walk.reached state (Contains_numbered c.args.states.now c.loop-number.number state c.get-state.ensures))

pub loop-number-preserved : goal.loop-number-preserved
loop-number-preserved c =
    let inv = c.loop-number.invariant in
    let old = c.loop-number.items in
    let item = c.in_ok-item.item in
    let longer = one_longer old item in
    record {
      long = c.in_ok-item.ensures.same_length ∙ inv.long;
      counted = ap length c.in_ok-push.ensures.ok ∙ longer ∙ ap (λ n. n + 1) inv.counted;
      full = λ number one is. ⊎_elim
          (λ was. inv.full number one was)
          (λ last. (
            c.get-state.result.now,
            ap (slice_get c.args.states.now) (last.0 ∙ inv.counted) ∙ c.get-state.ensures,
            subst (IsFullItem c.args.t.now c.args.rules.now c.args.states.now c.get-state.result.now) last.1 c.in_ok-item.ensures.item,
          ))
          (old_or_last old item number one (ap (λ xs. slice_get xs number) (sym c.in_ok-push.ensures.ok) ∙ is));
    }
