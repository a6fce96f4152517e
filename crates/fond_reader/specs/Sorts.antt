-- Typed lists of names and of variables: what fits, what is read, and what is left while a list is read.
use Rattle.std.specs.Prelude.{◌≡◌, ℕ, ◌++◌, Bool, true, false, List, map, Option}
use Rattle.std.specs.List.{AllByRecursion}
use Rattle.fond_text.specs.Lists.{each_passes}
use Rattle.fond_tree.specs.declared.tree.Tree.{Tree}
use Rattle.fond_ast.specs.declared.names.Kind.{Kind}
use Rattle.fond_ast.specs.declared.names.TypedName.{TypedName}
use Rattle.fond_tree.specs.declared.role.Role.{Role}
use Rattle.fond_tree.specs.declared.role.Role.TheVariants.{Name, Variable, VariableType}
use Rattle.fond_tree.specs.FormFaults.{Fits}
use Rattle.fond_tree.specs.Parts.{typed}
use Rattle.fond_tree.specs.Words.{is_name, is_variable}
use Rattle.fond_reader.specs.Typed.{TypedLeaf, typed_leaves, is_one_kind, are_kinds, is_declared_by}
use Rattle.fond_reader.specs.declared.typed.Sort.{Sort}
use Rattle.fond_reader.specs.declared.typed.Sort.TheVariants.{Names, Variables}

-- what is expected of the leaves of a list of this sort
abbrev pub leaf_role : Sort → Role
leaf_role Names = Name
leaf_role Variables = Variable

-- what is expected of the types of a list of this sort
abbrev pub type_role : Sort → Role
type_role Names = Name
type_role Variables = VariableType

-- whether a leaf may be declared by a list of this sort
abbrev pub leaf_test : Sort → List ℕ → Bool
leaf_test Names = is_name
leaf_test Variables = is_variable

-- whether types are read from a written type of this sort
abbrev pub type_test : Sort → List Kind → Tree → Bool
type_test Names = is_one_kind
type_test Variables = are_kinds

-- each part of a typed list of this sort fits
abbrev pub FitsTyped : Sort → List Tree → Type 0
FitsTyped sort trees = AllByRecursion (λ at. Fits at.role at.tree) (typed (leaf_role sort) (type_role sort) false trees)

-- whether a declaration is read from a leaf with its type
abbrev pub is_read_from : Sort → TypedName → TypedLeaf → Bool
is_read_from sort name leaf = is_declared_by (leaf_test sort) (type_test sort) name leaf

-- whether declarations are read from leaves with their types
abbrev pub are_read_from : Sort → List TypedName → List TypedLeaf → Bool
are_read_from sort names leaves = each_passes (map (is_read_from sort) names) leaves

-- a leaf with this type
abbrev pub typed_leaf : Option Tree → Tree → TypedLeaf
typed_leaf type leaf = record { leaf = leaf; type = type }

-- declarations of these leaves, all of one type, were added
pub record AddsLeaves (sort : Sort) (type : Option Tree) (leaves : List Tree) (old new : List TypedName) : Type 0 where
  pub added : List TypedName
  pub grown : new ≡ old ++ added
  pub read : are_read_from sort added (map (typed_leaf type) leaves) ≡ true

-- declarations of the first leaves of a typed list were added, and the rest of the list fits
pub record AddsTyped (sort : Sort) (trees rest : List Tree) (old new : List TypedName) : Type 0 where
  pub added : List TypedName
  pub grown : new ≡ old ++ added
  pub front : List TypedLeaf
  pub split : typed_leaves false trees ≡ front ++ typed_leaves false rest
  pub read : are_read_from sort added front ≡ true
  pub fits : FitsTyped sort rest
