use Rattle.std.proofs.Common.{below_more}
use Rattle.fond_fixpoint.proofs.cascade.are_settled_more.Goals as goal

pub loop-node-preserved : goal.loop-node-preserved
loop-node-preserved c = below_more _ _ c.loop-node.invariant (c.is_settled_more.ensures c.if-not-is_settled_more.false)
