-- Nodes that have a member, the sections of a file, and values that occur at most once.
use Rattle.std.specs.Prelude.{◌≡◌, Bool, true, false, List, [], ◌∷◌, Option, Some, None, codes, ⊤}
use Rattle.std.specs.List.{list_all}
use Rattle.fond_tree.specs.declared.tree.Tree.{Tree}
use Rattle.fond_tree.specs.Trees.{members_of, leaf_of}
use Rattle.fond_tree.specs.declared.role.Role.{Role}
use Rattle.fond_tree.specs.declared.role.Role.TheVariants.{Condition, Effect, Variables}
use Rattle.fond_tree.specs.FormFaults.{Fits, after_header, keys}
use Rattle.fond_tree.specs.Parts.{are_pairs}
use Rattle.fond_tree.specs.Roles.{action_keys, is_headed_by}
use Rattle.fond_reader.specs.Files.{values}

-- whether there are members, and at least one
abbrev pub is_headed : Option (List Tree) → Bool
is_headed None = false
is_headed (Some []) = false
is_headed (Some (head ∷ after)) = true

-- the sections of a file: its members after its header
abbrev pub sections_of : Tree → List Tree
sections_of tree = from (members_of tree)
  where
    from : Option (List Tree) → List Tree
    from None = []
    from (Some members) = after_header members

-- there is no tree, or one that fits a role
abbrev pub FitsOnce : Role → List Tree → Type 0
FitsOnce role [] = ⊤
FitsOnce role (tree ∷ trees) = Fits role tree × (trees ≡ [])

-- pairs of a known key and a value that fits, each key at most once
pub record FitsPairs (pairs : List Tree) : Type 0 where
  pub paired : are_pairs pairs ≡ true
  pub known : list_all (λ key. is_headed_by action_keys (leaf_of key)) (keys pairs) ≡ true
  pub parameters : FitsOnce Variables (values (codes ":parameters") pairs)
  pub pre : FitsOnce Condition (values (codes ":precondition") pairs)
  pub effect : FitsOnce Effect (values (codes ":effect") pairs)
