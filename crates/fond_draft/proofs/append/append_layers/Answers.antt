use Rattle.std.proofs.Common.{ℕ, suc, drop, take, length, sym, subst, arith}
use Rattle.std.proofs.lemmas.List.Elements.{All-contains}
use Rattle.fond_policy.proofs.Counted.{split_at}
use Rattle.fond_policy.proofs.Beginning.{take_all, take_next}
use Rattle.fond_task.proofs.Lists.{Contains_numbered}
use Rattle.fond_task.specs.Layers.{IsSureLayer}
use Rattle.fond_layers.specs.Over.{IsOver}
use Rattle.fond_draft.specs.Appends.{HaveGrown}
use Rattle.fond_draft.proofs.Appended.{LayerList, grown_more, state_through, stuck_over}
use Rattle.fond_draft.proofs.append.append_layers.Goals as goal

pub append_layer-requires-clause-layer_over : goal.append_layer-requires-clause-layer_over
append_layer-requires-clause-layer_over c =
    let stuck = c.requires.stuck in
    let atoms = length c.args.t.now.atoms in
    let more = c.args.more.now in
    let layer = c.get.result.now in
    subst (λ (n : ℕ). IsOver n layer) (sym c.len.ensures) (All-contains (IsOver atoms) more layer (stuck_over c.args.t.now stuck.0 more stuck.1 stuck.2) (Contains_numbered more c.loop-at.at layer c.get.ensures.layer))

pub loop-at-preserved : goal.loop-at-preserved
loop-at-preserved c =
    let task = c.args.t.now in
    let stuck = c.requires.stuck in
    let old = c.args.layers.now in
    let more = c.args.more.now in
    let at = c.loop-at.at in
    let layer = c.get.result.now in
    let next = c.append_layer.new.layers in
    let here = c.get.ensures.layer in
    let sure : IsSureLayer task (take at more) layer = stuck.2.sure (take at more) layer (drop (suc at) more) (split_at more at layer here) in
    let over = All-contains (IsOver (length task.atoms)) more layer (stuck_over task stuck.0 more stuck.1 stuck.2) (Contains_numbered more at layer here) in
    subst (λ (done : LayerList). HaveGrown task old done next) (sym (take_next more at layer here))
    (grown_more task old (take at more) c.loop-at.layers layer c.loop-at.invariant sure over next c.in_ok-append_layer.ensures.appended)

pub returns-clause-has : goal.returns-clause-has
returns-clause-has c = λ state lies.
    let layers = c.loop-at.layers in
    let all = take_all c.args.more.now c.loop-at.at (omega (arith, c.loop-at-test.false, c.len-at-end.ensures)) in
    let grown = subst (λ (done : LayerList). HaveGrown c.args.t.now c.args.layers.now done layers) all c.loop-at.invariant in
    state_through layers state lies.cube lies.lies (grown.has lies.layer lies.one lies.cube lies.has)
