use Rattle.std.proofs.Common.{◌≡◌, map}
use Rattle.fond_lasso.specs.Flat.{edges_of}
use Rattle.fond_lasso.proofs.flat.graph_of.Given as goal

abbrev pub invariant-loop-node : goal.invariant-loop-node
invariant-loop-node l = l.graph ≡ map edges_of l.yielded
