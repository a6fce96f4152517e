-- Trees that are alike have the same leaf and place, and members that are alike one by one.
use Rattle.std.proofs.Common.{◌≡◌, List, [], ◌∷◌, Option, Some, None, refl, sym, ap, ◌∙◌, subst}
use Rattle.std.specs.Prelude.{⊤}
use Rattle.std.specs.List.{AllZip}
use Rattle.fond_text.specs.declared.place.Place.{Place}
use Rattle.fond_tree.specs.Alike.{IsAlike, AreAlike}
use Rattle.fond_tree.specs.Trees.{members_step, leaf_step, place_step, members_of, leaf_of, place_of, head_of}
use Rattle.fond_tree.specs.declared.tree.Tree.{Tree, Leaf, Node', Row_of-Tree, end_of-Tree, more_of-Tree, items-the_row-Tree, items_shown-the_row-Tree-0}
use Rattle.fond_tree.specs.declared.tree.Tree.TheVariants.{outs-Leaf, outs-Node'}

-- trees that are alike one by one
abbrev pub AreAlikeTrees : List Tree → List Tree → Type 0
AreAlikeTrees = AllZip IsAlike

-- the members of two nodes, alike one by one, or none of two leaves
abbrev pub AreAlikeMembers : Option (List Tree) → Option (List Tree) → Type 0
AreAlikeMembers None None = ⊤
AreAlikeMembers None (Some others) = ⊥
AreAlikeMembers (Some members) None = ⊥
AreAlikeMembers (Some members) (Some others) = AreAlikeTrees members others

-- the trees of rows that are alike
row_alike : {m n : _} (row : Row_of-Tree m) (others : Row_of-Tree n) → AreAlike row others → AreAlikeTrees (items-the_row-Tree m row) (items-the_row-Tree n others)
row_alike end_of-Tree end_of-Tree are = tt
row_alike end_of-Tree (more_of-Tree other others) are = absurd are
row_alike (more_of-Tree tree row) end_of-Tree are = absurd are
row_alike (more_of-Tree tree row) (more_of-Tree other others) are = (are.0, row_alike row others are.1)

-- the members of a node are those of its row
members_are : (place : Place) (shape : _) (row : Row_of-Tree _) → members_of (Node' place shape row) ≡ Some (items-the_row-Tree _ row)
members_are place shape row = ap members_step (outs-Node' place shape row) ∙ ap (λ trees. Some trees) (items_shown-the_row-Tree-0 shape row)

-- trees that are alike have the same place
pub place_alike : (tree other : Tree) → IsAlike tree other → place_of tree ≡ place_of other
place_alike (Leaf place name) (Leaf at other) alike = ap place_step (outs-Leaf place name) ∙ alike.0 ∙ sym (ap place_step (outs-Leaf at other))
place_alike (Leaf place name) (Node' at form others) alike = absurd alike
place_alike (Node' place shape members) (Leaf at other) alike = absurd alike
place_alike (Node' place shape members) (Node' at form others) alike = ap place_step (outs-Node' place shape members) ∙ alike.0 ∙ sym (ap place_step (outs-Node' at form others))

-- trees that are alike have the same leaf
pub leaf_alike : (tree other : Tree) → IsAlike tree other → leaf_of tree ≡ leaf_of other
leaf_alike (Leaf place name) (Leaf at other) alike = ap leaf_step (outs-Leaf place name) ∙ ap (λ bytes. Some bytes) alike.1 ∙ sym (ap leaf_step (outs-Leaf at other))
leaf_alike (Leaf place name) (Node' at form others) alike = absurd alike
leaf_alike (Node' place shape members) (Leaf at other) alike = absurd alike
leaf_alike (Node' place shape members) (Node' at form others) alike = ap leaf_step (outs-Node' place shape members) ∙ sym (ap leaf_step (outs-Node' at form others))

-- trees that are alike have members that are alike
pub members_alike : (tree other : Tree) → IsAlike tree other → AreAlikeMembers (members_of tree) (members_of other)
members_alike (Leaf place name) (Leaf at other) alike =
    let one : members_of (Leaf place name) ≡ None = ap members_step (outs-Leaf place name) in
    let two : members_of (Leaf at other) ≡ None = ap members_step (outs-Leaf at other) in
    rw (one, two) tt
members_alike (Leaf place name) (Node' at form others) alike = absurd alike
members_alike (Node' place shape members) (Leaf at other) alike = absurd alike
members_alike (Node' place shape members) (Node' at form others) alike = rw (members_are place shape members, members_are at form others) (row_alike members others alike.1)

-- the members of two nodes that are alike are alike one by one
pub members_there : (tree other : Tree) (members others : List Tree) → IsAlike tree other → members_of tree ≡ Some members → members_of other ≡ Some others → AreAlikeTrees members others
members_there tree other members others alike one two =
    let first = subst (λ ms. AreAlikeMembers ms (members_of other)) one (members_alike tree other alike) in
    subst (λ ms. AreAlikeMembers (Some members) ms) two first

-- trees that are alike have the same head
pub head_alike : (tree other : Tree) → IsAlike tree other → head_of tree ≡ head_of other
head_alike tree other alike = from (members_of tree) (members_of other) refl refl (members_alike tree other alike) where
  from : (members others : Option (List Tree)) → members_of tree ≡ members → members_of other ≡ others → AreAlikeMembers members others → head_of tree ≡ head_of other
  from None None one two are = rw (one, two) refl
  from None (Some others) one two are = absurd are
  from (Some members) None one two are = absurd are
  from (Some []) (Some []) one two are = rw (one, two) refl
  from (Some []) (Some (other ∷ others)) one two are = absurd are
  from (Some (tree ∷ trees)) (Some []) one two are = absurd are
  from (Some (tree ∷ trees)) (Some (other ∷ others)) one two are = rw (one, two) (leaf_alike tree other are.0)
