use Rattle.std.proofs.Common.{◌≡◌, map, take}
use Rattle.fond_lasso.specs.Flat.{kind_of}
use Rattle.fond_lasso.proofs.flat.kinds_of.Given as goal

abbrev pub invariant-loop-node : goal.invariant-loop-node
invariant-loop-node l = l.kinds.items ≡ map (kind_of l.t) (take l.node-index l.nodes)
