use Rattle.std.proofs.Common.{ℕ, ◌<◌}
use Rattle.fond_fixpoint.specs.Fates.{fate_of}
use Rattle.fond_fixpoint.specs.Cascades.{IsSettledMore}
use Rattle.fond_fixpoint.proofs.cascade.are_settled_more.Given as goal

abbrev pub invariant-loop-node : goal.invariant-loop-node
invariant-loop-node l = (node : ℕ) → node < l.node → IsSettledMore l.round l.after (fate_of l.old node) (fate_of l.new node)
