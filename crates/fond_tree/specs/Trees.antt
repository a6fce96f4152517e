-- Trees by their parts: the place of a tree, the leaf that it is, or the members of its node and its head.
use Rattle.std.specs.Prelude.{ℕ, Bool, List, [], ◌∷◌, Option, Some, None, is_some}
use Rattle.fond_text.specs.declared.place.Place.{Place}
use Rattle.fond_tree.specs.declared.tree.Tree.{Tree, out-Tree}
use Rattle.fond_tree.specs.declared.tree.Tree.TheOpen.{Tree-F, Leaf, Node}

-- a leaf and a node have each their place
abbrev pub place_step : Tree-F Tree → Place
place_step (Leaf place name) = place
place_step (Node place members) = place

-- a leaf has a name, and a node has none
abbrev pub leaf_step : Tree-F Tree → Option (List ℕ)
leaf_step (Leaf place name) = Some name
leaf_step (Node place members) = None

-- a node has members, and a leaf has none
abbrev pub members_step : Tree-F Tree → Option (List Tree)
members_step (Leaf place name) = None
members_step (Node place members) = Some members.items

-- the place of a tree: that of the opening parenthesis of a node, and that of the first byte of a leaf
abbrev pub place_of : Tree → Place
place_of tree = place_step (out-Tree tree)

-- the leaf that a tree is, if it is one
abbrev pub leaf_of : Tree → Option (List ℕ)
leaf_of tree = leaf_step (out-Tree tree)

-- the members of the node that a tree is, if it is one
abbrev pub members_of : Tree → Option (List Tree)
members_of tree = members_step (out-Tree tree)

-- the first of some trees, if it is a leaf
abbrev pub front : List Tree → Option (List ℕ)
front [] = None
front (tree ∷ trees) = leaf_of tree

-- the head of a node: its first member, if that is a leaf
abbrev pub head_of : Tree → Option (List ℕ)
head_of tree = from (members_of tree)
  where
    from : Option (List Tree) → Option (List ℕ)
    from None = None
    from (Some members) = front members

-- whether a tree is a node
abbrev pub is_node : Tree → Bool
is_node tree = is_some (members_of tree)
