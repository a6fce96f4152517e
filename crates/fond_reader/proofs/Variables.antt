-- Variables that are read from a node.
use Rattle.std.proofs.Common.{◌≡◌, true, false, List, Some, Result, IfOk, sym, subst, ◌∙◌}
use Rattle.fond_tree.specs.declared.tree.Tree.{Tree}
use Rattle.fond_tree.specs.Trees.{members_of}
use Rattle.fond_ast.specs.declared.names.TypedName.{TypedName}
use Rattle.fond_tree.specs.declared.role.Role.TheVariants as role
use Rattle.fond_tree.specs.FormFaults.{Fits}
use Rattle.fond_tree.proofs.FittingNodes.{variables_there}
use Rattle.fond_reader.specs.Sorts.{FitsTyped, are_read_from}
use Rattle.fond_reader.specs.Typed.{typed_leaves, is_variable_list}
use Rattle.fond_reader.specs.declared.typed.Sort.TheVariants.{Variables}
use Rattle.fond_reader.proofs.Through.{if_ok}

module _ (tree : Tree) (members : List Tree) where
  pub variables_fit : Fits role.Variables tree → members_of tree ≡ Some members → FitsTyped Variables members
  variables_fit fits is =
      let there = variables_there tree fits in
      let both : Some there.0 ≡ Some members = sym there.1 ∙ is in
      let same : there.0 ≡ members = cc in
      subst (FitsTyped Variables) same there.2

  pub variables_read : {E : Type 0} → members_of tree ≡ Some members → (result : Result (List TypedName) E) → IfOk result (λ names. are_read_from Variables names (typed_leaves false members) ≡ true) →
      IfOk result (λ names. is_variable_list names tree ≡ true)
  variables_read is result = if_ok _ _ result (λ names read. rw is read)
