-- Which side list the trees of a text are read as, and the faults of trees that are read as none, F7.
use Rattle.std.specs.Prelude.{◌≡◌, ◌⊎◌, ℕ, Bool, true, not, List, map, filter, Contains}
use Rattle.fond_text.specs.Faults.{IsLeastIn}
use Rattle.fond_text.specs.Lists.{each_passes}
use Rattle.fond_text.specs.declared.fault.Fault.{Fault}
use Rattle.fond_text.specs.declared.place.FileKind.TheVariants.{Side as SideKind}
use Rattle.fond_text.specs.declared.place.Place.{Place}
use Rattle.fond_tree.specs.declared.tree.Tree.{Tree}
use Rattle.fond_tree.specs.Faults.{IsForestFaultOf}
use Rattle.fond_tree.specs.Spelling.{IsReadAsForest}
use Rattle.fond_tree.specs.Trees.{is_node}
use Rattle.fond_ast.specs.declared.files.Pattern.{Pattern}
use Rattle.fond_ast.specs.declared.files.Side.{Side}
use Rattle.fond_ast.specs.declared.names.Kind.{Kind}
use Rattle.fond_tree.specs.declared.role.Role.TheVariants.{Atom}
use Rattle.fond_tree.specs.FormFaults.{Stands}
use Rattle.fond_reader.specs.Bodies.{is_atom}
use Rattle.fond_reader.specs.Forms.{is_sorted}

-- the leaves among trees, in order
abbrev pub leaves_of : List Tree → List Tree
leaves_of trees = filter (λ tree. not (is_node tree)) trees

-- the nodes among trees, in order
abbrev pub nodes_of : List Tree → List Tree
nodes_of trees = filter is_node trees

-- whether a leaf is read from a tree; its bytes may be any
abbrev pub is_leaf : Kind → Tree → Bool
is_leaf leaf tree = is_sorted (λ bytes. true) leaf.place leaf.name tree

-- whether a pattern is read from a tree: a node of a name and terms, as an atom is
abbrev pub is_pattern : Pattern → Tree → Bool
is_pattern pattern tree = is_atom (record { place = pattern.place; head = pattern.schema.place; name = pattern.schema.name; terms = pattern.terms }) tree

-- trees are read as a side list: its names are the leaves, and its patterns the nodes
pub record IsSideOf (trees : List Tree) (side : Side) : Type 0 where
  pub names : each_passes (map is_leaf side.names) (leaves_of trees) ≡ true
  pub patterns : each_passes (map is_pattern side.patterns) (nodes_of trees) ≡ true

-- a fault occurs in a node of a side list: the node has no member, its first member is no name, or another one is no term
abbrev pub StandsInSide : List Tree → Place → ℕ → Type 0
StandsInSide trees place code = (tree : Tree) × Contains (nodes_of trees) tree × Stands Atom tree place code

-- a text is read as a side list, by way of the forest that it spells
pub record IsSideOfText (text : List ℕ) (side : Side) : Type 0 where
  pub trees : List Tree
  pub spelled : IsReadAsForest text trees
  pub read : IsSideOf trees side

-- the first fault of the text of a side list: that of a text that is read as no forest, or the least one of the forest
abbrev pub IsSideFault : List ℕ → Fault → Type 0
IsSideFault text fault =
    IsForestFaultOf SideKind text fault ⊎ ((trees : List Tree) × IsReadAsForest text trees × IsLeastIn SideKind (StandsInSide trees) fault)
