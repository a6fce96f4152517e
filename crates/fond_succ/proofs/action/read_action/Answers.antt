use Rattle.std.proofs.Common.{◌≡◌, ℕ, List, false, sym, ◌∙◌, subst}
use Rattle.fond_tree.specs.Spelling.{IsReadAs}
use Rattle.fond_succ.specs.Actions.{is_leaf_node}
use Rattle.fond_succ.proofs.ActionTrees.{no_action}
use Rattle.fond_succ.proofs.action.read_action.Goals as goal

pub returns-else-is_node_of_leaves : goal.returns-else-is_node_of_leaves
returns-else-is_node_of_leaves c =
    let none : is_leaf_node c.in-Ok.tree ≡ false = sym c.is_node_of_leaves.ensures ∙ c.if-is_node_of_leaves.false in
    no_action _ c.in-Ok.tree (subst (λ (word : List ℕ). IsReadAs word c.in-Ok.tree) c.bytes.ensures c.in-Ok.ensures.ok) none
