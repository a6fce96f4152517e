use Rattle.std.proofs.Common.{drop, not}
use Rattle.fond_tree.specs.Trees.{is_node}
use Rattle.fond_reader.specs.Sides.{is_leaf}
use Rattle.fond_reader.proofs.Picked.{Picked}
use Rattle.fond_reader.proofs.side.read_side_names.Given as goal

-- the leaves so far were read
abbrev pub invariant-loop-tree : goal.invariant-loop-tree
invariant-loop-tree l = Picked is_leaf (λ tree. not (is_node tree)) l.trees (drop l.tree-index l.trees) l.names
