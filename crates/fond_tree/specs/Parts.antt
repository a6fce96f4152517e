-- The members of a node, each with what is expected of it.
use Rattle.std.specs.Prelude.{ℕ, ◌&&◌, Bool, true, false, not, List, [], ◌∷◌, ◌++◌, Option, Some, None, map, codes, slice_get, option_and_then, option_map, option_to_list, if◌then◌else◌}
use Rattle.std.specs.Str.{bytes_eq}
use Rattle.fond_tree.specs.declared.tree.Tree.{Tree}
use Rattle.fond_tree.specs.Trees.{members_of, leaf_of}
use Rattle.fond_tree.specs.declared.role.Role.{Role}
use Rattle.fond_tree.specs.declared.role.Role.TheVariants.{Key, Variables, Condition, Effect}
use Rattle.fond_tree.specs.declared.role.Rest.{Rest}
use Rattle.fond_tree.specs.declared.role.Rest.TheVariants.{NoMore, Each, Typed, Pairs, Unread}
use Rattle.fond_tree.specs.Roles.{Expected, Members, Refused, node_expected}

-- a tree, and what is expected of it
pub record Part : Type 0 where
  pub role : Role
  pub tree : Tree

-- a tree of a role, as a part
abbrev pub part : Role → Tree → Part
part role tree = record { role = role; tree = tree }

-- whether a tree is the leaf `-`
abbrev pub is_dash : Tree → Bool
is_dash tree = equals (leaf_of tree)
  where
    equals : Option (List ℕ) → Bool
    equals None = false
    equals (Some leaf) = bytes_eq leaf (codes "-")

-- a typed list: leaves, and after one or more of them a `-` and their type. A `-` after a tree that has no type yet
-- gives it the next tree, if there is one, as its type; each other `-` is a leaf that does not fit. `untyped` says whether
-- the tree before is a leaf that has no type yet
abbrev pub typed : Role → Role → Bool → List Tree → List Part
typed leaf type untyped [] = []
typed leaf type untyped (tree ∷ []) = part leaf tree ∷ []
typed leaf type untyped (tree ∷ next ∷ trees) =
    if untyped && is_dash tree then part type next ∷ typed leaf type false trees else part leaf tree ∷ typed leaf type (not (is_dash tree)) (next ∷ trees)

-- what is expected of the value of a key; the value after another leaf is not read
abbrev pub value_role : List ℕ → Option Role
value_role key =
    if bytes_eq key (codes ":parameters") then Some Variables
    else if bytes_eq key (codes ":precondition") then Some Condition
    else if bytes_eq key (codes ":effect") then Some Effect
    else None

-- the value of a key as a part, if it is read
abbrev pub value : Option (List ℕ) → Tree → List Part
value key tree = option_to_list (option_map (λ role. part role tree) (option_and_then value_role key))

-- keys and their values
abbrev pub pairs : List Tree → List Part
pairs [] = []
pairs (key ∷ []) = part Key key ∷ []
pairs (key ∷ tree ∷ trees) = part Key key ∷ (value (leaf_of key) tree ++ pairs trees)

-- the rest of the members
abbrev pub rest_parts : Rest → List Tree → List Part
rest_parts NoMore trees = []
rest_parts (Each role) trees = map (part role) trees
rest_parts (Typed leaf type) trees = typed leaf type false trees
rest_parts Pairs trees = pairs trees
rest_parts Unread trees = []

-- the members of a shape
abbrev pub shape_parts : List Role → Rest → List Tree → List Part
shape_parts [] rest trees = rest_parts rest trees
shape_parts (role ∷ roles) rest [] = []
shape_parts (role ∷ roles) rest (tree ∷ trees) = part role tree ∷ shape_parts roles rest trees

-- the parts of members of which this is expected; those of a refused node, or of one in place of a leaf, are not parts
abbrev pub expected_parts : Option Expected → List Tree → List Part
expected_parts None members = []
expected_parts (Some (Members shape)) members = shape_parts shape.first shape.rest members
expected_parts (Some (Refused code)) members = []

-- the parts of a tree of a role: the members of the node that it is, as far as they are read; a `-` that fits is no
-- part
abbrev pub parts : Part → List Part
parts whole = from (members_of whole.tree)
  where
    from : Option (List Tree) → List Part
    from None = []
    from (Some members) = expected_parts (node_expected whole.role members) members

-- the part of a tree at the end of a path of numbers of parts, if it is there
abbrev pub part_at : Part → List ℕ → Option Part
part_at whole [] = Some whole
part_at whole (number ∷ path) = option_and_then (λ inner. part_at inner path) (slice_get (parts whole) number)

-- whether trees are whole pairs
abbrev pub are_pairs : List Tree → Bool
are_pairs [] = true
are_pairs (key ∷ []) = false
are_pairs (key ∷ tree ∷ trees) = are_pairs trees

-- whether nothing is missing of the rest and nothing is too many
abbrev pub is_rest : Rest → List Tree → Bool
is_rest NoMore [] = true
is_rest NoMore (tree ∷ trees) = false
is_rest (Each role) trees = true
is_rest (Typed leaf type) trees = true
is_rest Pairs trees = are_pairs trees
is_rest Unread trees = true

-- whether no member of a shape is missing and none is too many
abbrev pub is_counted : List Role → Rest → List Tree → Bool
is_counted [] rest trees = is_rest rest trees
is_counted (role ∷ roles) rest [] = false
is_counted (role ∷ roles) rest (tree ∷ trees) = is_counted roles rest trees
