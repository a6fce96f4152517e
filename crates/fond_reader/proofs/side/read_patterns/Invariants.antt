use Rattle.std.proofs.Common.{drop}
use Rattle.fond_tree.specs.Trees.{is_node}
use Rattle.fond_reader.specs.Sides.{is_pattern}
use Rattle.fond_reader.proofs.Picked.{Picked}
use Rattle.fond_reader.proofs.side.read_patterns.Given as goal

-- the nodes so far were read
abbrev pub invariant-loop-tree : goal.invariant-loop-tree
invariant-loop-tree l = Picked is_pattern is_node l.trees (drop l.tree-index l.trees) l.patterns
