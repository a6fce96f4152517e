use Rattle.std.proofs.Common.{◌≡◌, ◌∙◌, ◌+◌, ◌≤◌, List, Bool, Some, length, slice_get, sym, ap, subst, arith}
use Rattle.std.proofs.lemmas.List.{length-append}
use Rattle.std.proofs.lemmas.Option.{slice_get_within}
use Rattle.fond_task.proofs.Lists.{Contains_numbered}
use Rattle.fond_task.proofs.Reached.{reached_long}
use Rattle.fond_policy.proofs.Walking.{grown_keeps}
use Rattle.fond_reach.proofs.Graphs.{IsChosenNext, begun, told_more, whole}
use Rattle.fond_reach.proofs.reached.walk_on.Goals as goal

pub copy_from-requires : goal.copy_from-requires
copy_from-requires g c =
    let state = c.get.result.now in
    let reached = c.loop-at.invariant.begun.reached state (Contains_numbered c.loop-at.states c.loop-at.at state c.get.ensures) in
    c.loop-at.invariant.long ∙ sym (reached_long c.args.t.now (g.C.Chooser.policy c.args.chooser.now) state reached)

pub node_of-requires-clause-long : goal.node_of-requires-clause-long
node_of-requires-clause-long g c =
    let state = c.get.result.now in
    let reached = c.loop-at.invariant.begun.reached state (Contains_numbered c.loop-at.states c.loop-at.at state c.get.ensures) in
    ap length c.copy_from.ensures ∙ reached_long c.args.t.now (g.C.Chooser.policy c.args.chooser.now) state reached

pub loop-at-init : goal.loop-at-init
loop-at-init g c = record {
  long = c.requires.long;
  next_long = c.requires.next_long;
  done = omega arith;
  counted = ap length c.new-nodes.ensures.items;
  begun = begun c.args.t.now (g.C.Chooser.policy c.args.chooser.now) c.args.states.now c.new-nodes.result.items c.requires.first c.new-nodes.ensures.items;
}

pub loop-at-preserved : goal.loop-at-preserved
loop-at-preserved g c =
    let task = c.args.t.now in
    let policy = g.C.Chooser.policy c.args.chooser.now in
    let old = c.loop-at.states in
    let new = c.node_of.new.states in
    let at = c.loop-at.at in
    let nodes = c.loop-at.nodes.items in
    let state = c.copy_from.new.self in
    let so_far = c.loop-at.invariant in
    let there : slice_get old at ≡ Some state = subst (λ (s : List Bool). slice_get old at ≡ Some s) (sym c.copy_from.ensures) c.get.ensures in
    let counted_there : slice_get old (length nodes) ≡ Some state = ap (slice_get old) so_far.counted ∙ there in
    let reached = so_far.begun.reached state (Contains_numbered old at state there) in
    let grown = c.in_ok-node_of.ensures.grows in
    let kept = grown_keeps (IsChosenNext task policy state) old new grown at state there in
    record {
      long = reached_long task policy state reached;
      next_long = c.in_ok-node_of.ensures.same_length ∙ so_far.next_long;
      done = (let within = slice_get_within new at state kept in omega (arith, within));
      counted = ap length c.in_ok-push.ensures.items ∙ length-append nodes _ ∙ ap (λ n. n + 1) so_far.counted;
      begun = told_more task policy old new nodes c.push.new.self.items state c.in_ok-node_of.field-0 counted_there grown c.in_ok-node_of.ensures.node c.in_ok-node_of.ensures.ordered c.in_ok-push.ensures.items so_far.begun;
    }

pub returns : goal.returns
returns g c =
    let so_far = c.loop-at.invariant in
    let end : length c.loop-at.states ≤ length c.loop-at.nodes.items = omega (arith, c.loop-at-test.false, c.len.ensures.counted, so_far.counted) in (
      whole c.args.t.now (g.C.Chooser.policy c.args.chooser.now) c.loop-at.states c.loop-at.nodes.items so_far.begun end c.len.ensures.distinct,
      omega (arith, c.if-len-limit-2.false, c.len-2.ensures.counted),
    )
