use Rattle.std.proofs.Common.{◌<◌, length, arith}
use Rattle.fond_graph.proofs.Listing.{listing_one}
use Rattle.fond_graph.proofs.Remaining.{nodes_step}
use Rattle.fond_graph.proofs.nodes.Drawing.put_nodes.Goals as goal

pub loop-number-preserved : goal.loop-number-preserved
loop-number-preserved c =
    let k = c.loop-number.number in
    let nodes = c.args.nodes.now in
    let within : k < length nodes = omega (arith, c.loop-number-test.true, c.len-number-end.ensures.counted, c.requires.counted) in
    listing_one _ _ _ _ _ _ c.loop-number.invariant _ _ _ _ _
    (nodes_step c.args.self.now.task.now c.args.self.now.rules.now c.args.states.now nodes k c.get.result.now c.index-nodes-number.result c.get.ensures within c.index-nodes-number.is)
    c.put_comma.ensures.comma c.put_comma.ensures.later c.put_node.ensures
