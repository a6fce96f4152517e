-- Trees by their forms: leaves at a place, `()`, and operators with operands.
use Rattle.std.specs.Prelude.{ℕ, ◌==◌, ◌&&◌, Bool, false, List, [], ◌∷◌, length, Option, Some, None}
use Rattle.fond_text.specs.Lists.{each_passes}
use Rattle.fond_text.specs.declared.place.Place.{Place}
use Rattle.fond_tree.specs.declared.tree.Tree.{Tree}
use Rattle.fond_tree.specs.Words.{is_name, is_word}
use Rattle.fond_tree.specs.Trees.{members_of, leaf_of, place_of}

-- whether two places are the same
abbrev pub is_place : Place → Place → Bool
is_place place other = place.line == other.line && place.column == other.column

-- whether a tree is a leaf of this place and these bytes, which are of this sort
abbrev pub is_sorted : (List ℕ → Bool) → Place → List ℕ → Tree → Bool
is_sorted sort place bytes tree = is_word bytes (leaf_of tree) && is_place place (place_of tree) && sort bytes

-- whether a tree is a leaf of this place and bytes, which are a name
abbrev pub is_named : Place → List ℕ → Tree → Bool
is_named = is_sorted is_name

-- whether the members are those of a node without any
abbrev pub is_empty : Option (List Tree) → Bool
is_empty None = false
is_empty (Some members) = length members == 0

-- whether a tree is `()`
abbrev pub is_unit : Tree → Bool
is_unit tree = is_empty (members_of tree)

-- whether there is exactly one member, and this holds of it
abbrev pub is_only : (Tree → Bool) → Option (List Tree) → Bool
is_only test None = false
is_only test (Some []) = false
is_only test (Some (tree ∷ trees)) = test tree && length trees == 0

-- whether members are this word and operands that are read as these
abbrev pub are_operands : List ℕ → List (Tree → Bool) → Option (List Tree) → Bool
are_operands word rest None = false
are_operands word rest (Some []) = false
are_operands word rest (Some (head ∷ after)) = is_word word (leaf_of head) && each_passes rest after

-- whether a tree is a node of this operator and operands that are read as these
abbrev pub is_form : List ℕ → List (Tree → Bool) → Tree → Bool
is_form word operands tree = are_operands word operands (members_of tree)
