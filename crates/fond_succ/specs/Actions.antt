-- The action word of a command line, and which ground action it names.
use Rattle.std.specs.Prelude.{◌≡◌, ℕ, ◌==◌, ◌&&◌, not, Bool, true, false, is_some, List, [], ◌∷◌, length, map, slice_get, Option, Some, None}
use Rattle.std.specs.List.{filter_map, list_all}
use Rattle.fond_text.specs.declared.atom.GroundAction.{GroundAction}
use Rattle.fond_ast.specs.declared.task.LSchema.{LSchema}
use Rattle.fond_ast.specs.declared.task.LiftedTask.{LiftedTask}
use Rattle.fond_ast.specs.Conditions.{IsTuple}
use Rattle.fond_task.specs.Texts.{name_at}
use Rattle.fond_tree.specs.declared.tree.Tree.{Tree}
use Rattle.fond_tree.specs.Spelling.{IsReadAs}
use Rattle.fond_tree.specs.Trees.{leaf_of, members_of}

-- whether there are members, at least one and all of them leaves
abbrev pub are_leaves : Option (List Tree) → Bool
are_leaves None = false
are_leaves (Some members) = not (length members == 0) && list_all (λ tree. is_some (leaf_of tree)) members

-- whether a tree is a node of leaves with at least one leaf
abbrev pub is_leaf_node : Tree → Bool
is_leaf_node tree = are_leaves (members_of tree)

-- the members, if there are any
abbrev pub or_nil : Option (List Tree) → List Tree
or_nil None = []
or_nil (Some members) = members

-- the names of the leaves among trees, in order
abbrev pub leaf_names : List Tree → List (List ℕ)
leaf_names trees = filter_map leaf_of trees

-- the names of the leaves of a node, in order; a leaf has none
abbrev pub names_of : Tree → List (List ℕ)
names_of tree = leaf_names (or_nil (members_of tree))

-- a word is an action if it is read as a node of leaves with at least one leaf
abbrev pub IsAction : List ℕ → Type 0
IsAction word = (tree : Tree) × IsReadAs word tree × (is_leaf_node tree ≡ true)

-- names are those of a ground action of a task: those of a schema and of objects, in order, where the objects lie in the
-- ranges of the schema's parameters
pub record AreNamesOf (task : LiftedTask) (names : List (List ℕ)) (action : GroundAction) : Type 0 where
  pub schema : LSchema
  pub numbered : slice_get task.schemas action.schema ≡ Some schema
  pub fits : IsTuple schema.ranges action.objects
  pub named : names ≡ schema.name ∷ map (name_at task.objects) action.objects

-- names are those of no ground action of a task
abbrev pub NameNone : LiftedTask → List (List ℕ) → Type 0
NameNone task names = (action : GroundAction) → ¬ AreNamesOf task names action
