-- Typed lists: leaves, and after one or more of them a `-` and their type; leaves at the end without a `-` have the
-- type `object`.
use Rattle.std.specs.Prelude.{ℕ, ◌==◌, ◌&&◌, ◌||◌, Bool, false, not, List, [], ◌∷◌, map, length, Option, Some, None, codes, if◌then◌else◌}
use Rattle.std.specs.Str.{bytes_eq}
use Rattle.fond_text.specs.Lists.{each_passes}
use Rattle.fond_text.specs.declared.place.Place.{Place}
use Rattle.fond_tree.specs.declared.tree.Tree.{Tree}
use Rattle.fond_tree.specs.Trees.{members_of}
use Rattle.fond_ast.specs.declared.names.Kind.{Kind}
use Rattle.fond_ast.specs.declared.names.TypedName.{TypedName}
use Rattle.fond_tree.specs.Words.{is_name, is_variable}
use Rattle.fond_tree.specs.Parts.{is_dash}
use Rattle.fond_reader.specs.Forms.{is_place, is_sorted, is_named, is_form}

-- a leaf of a typed list, and its type, if one is written
pub record TypedLeaf : Type 0 where
  pub leaf : Tree
  pub type : Option Tree

-- the tree after the next `-`, if both are there
abbrev pub next_type : List Tree → Option Tree
next_type [] = None
next_type (tree ∷ []) = None
next_type (tree ∷ next ∷ trees) = if is_dash tree then Some next else next_type (next ∷ trees)

-- the leaves of a typed list, each with the type that the next `-` gives it. A `-` that follows no leaf without a type, or
-- that no tree follows, counts as a leaf; it is no name and no variable
abbrev pub typed_leaves : Bool → List Tree → List TypedLeaf
typed_leaves untyped [] = []
typed_leaves untyped (tree ∷ []) = record { leaf = tree; type = None } ∷ []
typed_leaves untyped (tree ∷ next ∷ trees) =
    if untyped && is_dash tree then typed_leaves false trees
    else record { leaf = tree; type = next_type (next ∷ trees) } ∷ typed_leaves (not (is_dash tree)) (next ∷ trees)

-- whether a type is read from a tree: a name
abbrev pub is_kind : Kind → Tree → Bool
is_kind kind tree = is_named kind.place kind.name tree

-- whether types are read from the type of a declared name, which is one name
abbrev pub is_one_kind : List Kind → Tree → Bool
is_one_kind kinds tree = each_passes (map is_kind kinds) (tree ∷ [])

-- whether types are read from the type of a variable: one name, or `either` before at least one name
abbrev pub are_kinds : List Kind → Tree → Bool
are_kinds kinds tree = is_one_kind kinds tree || (not (length kinds == 0) && is_form (codes "either") (map is_kind kinds) tree)

-- whether types are those of a leaf at this place without a written type: `object` alone, at the place of the leaf
abbrev pub is_object_alone : Place → List Kind → Bool
is_object_alone place [] = false
is_object_alone place (kind ∷ kinds) = bytes_eq kind.name (codes "object") && is_place kind.place place && length kinds == 0

-- whether types are read from a written type, or are those of a leaf at this place without one
abbrev pub have_type : (List Kind → Tree → Bool) → Place → List Kind → Option Tree → Bool
have_type type place kinds None = is_object_alone place kinds
have_type type place kinds (Some tree) = type kinds tree

-- whether a declared name or variable is read from a leaf of this sort with its type
abbrev pub is_declared_by : (List ℕ → Bool) → (List Kind → Tree → Bool) → TypedName → TypedLeaf → Bool
is_declared_by sort type name typed = is_sorted sort name.place name.name typed.leaf && have_type type name.place name.kinds typed.type

-- whether declared names are read from a typed list, in which each type is one name
abbrev pub are_names : List TypedName → List Tree → Bool
are_names names trees = each_passes (map (is_declared_by is_name is_one_kind) names) (typed_leaves false trees)

-- whether variables are read from a typed list, in which a type may be an `either`
abbrev pub are_variables : List TypedName → List Tree → Bool
are_variables names trees = each_passes (map (is_declared_by is_variable are_kinds) names) (typed_leaves false trees)

-- whether variables are read from a node
abbrev pub is_variable_list : List TypedName → Tree → Bool
is_variable_list names tree = from (members_of tree)
  where
    from : Option (List Tree) → Bool
    from None = false
    from (Some members) = are_variables names members
