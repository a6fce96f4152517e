-- Leaves that are read as names, variables and terms, and nodes that have members.
use Rattle.std.proofs.Common.{◌≡◌, ℕ, Bool, true, false, List, ◌∷◌, Some, map, refl, sym, ap, ◌∙◌, eq-eqb, is_some}
use Rattle.std.specs.Str.{bytes_eq}
use Rattle.std.proofs.lemmas.Slice.Eq.{bytes_eq-Decides}
use Rattle.fond_text.specs.Bools.{is_same}
use Rattle.fond_text.specs.declared.place.Place.{Place}
use Rattle.fond_tree.specs.declared.tree.Tree.{Tree, out-Tree}
use Rattle.fond_tree.specs.declared.tree.Tree.TheOpen.{Tree-F, Leaf, Node}
use Rattle.fond_tree.specs.Trees.{members_of, members_step, leaf_step, leaf_of, place_of, is_node}
use Rattle.fond_tree.specs.Words.{is_word}
use Rattle.fond_tree.proofs.FittingLeaves.{IsLeafOf}
use Rattle.fond_text.specs.Lists.{each_passes}
use Rattle.fond_ast.specs.declared.names.Term.{Term}
use Rattle.fond_reader.specs.Bodies.{is_term, is_atom, are_of_atom}
use Rattle.fond_reader.specs.Forms.{is_place, is_sorted, is_named}
use Rattle.fond_reader.specs.Nodes.{is_headed}
use Rattle.fond_reader.proofs.Through.{both_hold}

pub same_bytes : (bytes : List ℕ) → bytes_eq bytes bytes ≡ true
same_bytes bytes = (bytes_eq-Decides bytes bytes).1 refl

pub same_place : (place : Place) → is_place place place ≡ true
same_place place = both_hold _ _ (eq-eqb place.line place.line refl) (eq-eqb place.column place.column refl)

-- a leaf is no node
pub no_node : (tree : Tree) (leaf : List ℕ) → leaf_of tree ≡ Some leaf → is_node tree ≡ false
no_node tree leaf is = from (out-Tree tree) is where
  from : (layer : Tree-F Tree) → leaf_step layer ≡ Some leaf → is_some (members_step layer) ≡ false
  from (Leaf place name) h = refl
  from (Node place members) h = cc

pub no_node_of : (test : List ℕ → Bool) (tree : Tree) → IsLeafOf test tree → is_node tree ≡ false
no_node_of test tree l = no_node tree l.leaf l.is

-- a tree with members is a node
pub node_of : (tree : Tree) (members : List Tree) → members_of tree ≡ Some members → is_node tree ≡ true
node_of tree members is = ap is_some is

pub headed_of : (tree head : Tree) (after : List Tree) → members_of tree ≡ Some (head ∷ after) → is_headed (members_of tree) ≡ true
headed_of tree head after is = ap is_headed is

-- a leaf of a sort is read at its place
pub sorted_at : (sort : List ℕ → Bool) (tree : Tree) (place : Place) (name : List ℕ) → IsLeafOf sort tree → place ≡ place_of tree → leaf_of tree ≡ Some name → is_sorted sort place name tree ≡ true
sorted_at sort tree place name l at is =
    let same : name ≡ l.leaf = let both : Some name ≡ Some l.leaf = sym is ∙ l.is in cc in
    both_hold _ _ (both_hold _ _ (ap (is_word name) is ∙ same_bytes name) (ap (λ p. is_place p (place_of tree)) at ∙ same_place (place_of tree))) (ap sort same ∙ l.passes)

pub same_truth : (a b : Bool) → a ≡ b → is_same a b ≡ true
same_truth true b is = sym is
same_truth false true is = cc
same_truth false false is = refl

-- an atom is read by its parts
pub atom_read : (place at : Place) (name : List ℕ) (terms : List Term) (tree head : Tree) (after : List Tree) → members_of tree ≡ Some (head ∷ after) → place ≡ place_of tree → is_named at name head ≡ true →
    each_passes (map is_term terms) after ≡ true → is_atom (record { place = place; head = at; name = name; terms = terms }) tree ≡ true
atom_read place at name terms tree head after whole here named read =
    both_hold _ _ (ap (λ p. is_place p (place_of tree)) here ∙ same_place (place_of tree))
    (ap (are_of_atom (record { place = place; head = at; name = name; terms = terms })) whole ∙ both_hold _ _ named read)
