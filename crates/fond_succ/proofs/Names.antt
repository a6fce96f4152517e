-- The members of a node of leaves.
use Rattle.std.proofs.Common.{◌≡◌, true, List, Some, is_some}
use Rattle.std.specs.List.{list_all}
use Rattle.std.proofs.lemmas.Bool.{and_parts}
use Rattle.fond_tree.specs.declared.tree.Tree.{Tree}
use Rattle.fond_tree.specs.Trees.{leaf_of, members_of}
use Rattle.fond_succ.specs.Actions.{is_leaf_node}

-- a node of leaves has members, which are all leaves
pub leaves_of_node : (tree : Tree) (members : List Tree) → is_leaf_node tree ≡ true → members_of tree ≡ Some members → list_all (λ tree. is_some (leaf_of tree)) members ≡ true
leaves_of_node tree members is some = let told = rw some at is in (and_parts _ _ told).1
