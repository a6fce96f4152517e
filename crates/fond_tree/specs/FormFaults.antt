-- The faults of a tree that is no domain or no problem, F7 to F12. Members are checked as far as something is expected
-- of them: not those of a node that is itself refused with F8, F11 or F12 or that occurs in place of a leaf, nor those
-- beyond the expected ones.
use Rattle.std.specs.Prelude.{◌≡◌, ◌⊎◌, ℕ, true, List, [], ◌∷◌, Contains, Option, Some, None, codes, if◌then◌else◌}
use Rattle.std.specs.List.{filter_map}
use Rattle.fond_text.specs.Faults.{IsClean}
use Rattle.fond_text.specs.Lists.{Somewhere}
use Rattle.fond_text.specs.declared.code.TheConstants.{MISFIT, REPEATED_SECTION, MISSING_SECTION}
use Rattle.fond_text.specs.declared.place.Place.{Place}
use Rattle.fond_tree.specs.declared.tree.Tree.{Tree}
use Rattle.fond_tree.specs.Words.{is_one_of}
use Rattle.fond_tree.specs.Trees.{head_of, members_of, leaf_of, place_of}
use Rattle.fond_tree.specs.declared.role.Role.{Role}
use Rattle.fond_tree.specs.declared.role.Role.TheVariants.{DomainFile, ProblemFile, DomainSection}
use Rattle.fond_tree.specs.Roles.{Expected, Members, Refused, node_expected, leaf_code, action_keys}
use Rattle.fond_tree.specs.Parts.{Part, part, part_at, is_counted}

-- the code with which a node is refused, if it is: it is a misfit if a leaf is expected, or if it has too few or too
-- many members; otherwise it has the code with which its head, or its lack of choices, refuses it
abbrev pub node_code : Option Expected → List Tree → Option ℕ
node_code None members = Some MISFIT
node_code (Some (Members shape)) members = if is_counted shape.first shape.rest members then None else Some MISFIT
node_code (Some (Refused code)) members = Some code

-- the code with which a tree of a role is refused, if it is
abbrev pub tree_code : Role → Option (List ℕ) → Option (List Tree) → Option ℕ
tree_code role (Some leaf) members = leaf_code role leaf
tree_code role None (Some members) = node_code (node_expected role members) members
tree_code role None None = None

-- a tree is refused at its place
abbrev pub IsRefusedTree : Part → Place → ℕ → Type 0
IsRefusedTree at place code = (place ≡ place_of at.tree) × (tree_code at.role (leaf_of at.tree) (members_of at.tree) ≡ Some code)

-- the members of a file after its header, and those of an action after its name
abbrev pub after_header : List Tree → List Tree
after_header [] = []
after_header (first ∷ []) = []
after_header (first ∷ second ∷ after) = after

-- the sections of a domain that may occur only once
abbrev pub single_in_domain : List (List ℕ)
single_in_domain = codes ":requirements" ∷ codes ":types" ∷ codes ":constants" ∷ codes ":predicates" ∷ []

-- the sections of a problem that may occur only once
abbrev pub single_in_problem : List (List ℕ)
single_in_problem = codes ":requirements" ∷ codes ":domain" ∷ codes ":objects" ∷ codes ":init" ∷ codes ":goal" ∷ []

-- a tree has a head that may occur only once, and some tree before it has the same head; the fault is at its own place
pub record IsAgain (heads : Tree → Option (List ℕ)) (single : List (List ℕ)) (place : Place) (before : List Tree) (tree : Tree) : Type 0 where
  pub head : List ℕ
  pub headed : heads tree ≡ Some head
  pub counts : is_one_of single head ≡ true
  pub earlier : Contains (filter_map heads before) head
  pub place_is : place ≡ place_of tree

-- a head that may occur only once occurs a second time in a list of trees
abbrev pub Repeats : (Tree → Option (List ℕ)) → List (List ℕ) → List Tree → Place → Type 0
Repeats heads single trees place = Somewhere (IsAgain heads single place) trees

-- every second tree of a list, from the first on
abbrev pub keys : List Tree → List Tree
keys [] = []
keys (key ∷ []) = key ∷ []
keys (key ∷ tree ∷ trees) = key ∷ keys trees

-- a section of a file, or a key of an action, occurs a second time
abbrev pub IsRepeated : Role → Tree → Place → Type 0
IsRepeated DomainFile tree place = (members : List Tree) × (members_of tree ≡ Some members) × Repeats head_of single_in_domain (after_header members) place
IsRepeated ProblemFile tree place = (members : List Tree) × (members_of tree ≡ Some members) × Repeats head_of single_in_problem (after_header members) place
IsRepeated DomainSection tree place =
    (members : List Tree) × (members_of tree ≡ Some members) × (head_of tree ≡ Some (codes ":action")) × Repeats leaf_of action_keys (keys (after_header members)) place
IsRepeated role tree place = ⊥

-- a problem has no section of this head
abbrev pub Lacks : List ℕ → List Tree → Type 0
Lacks head sections = ¬ Contains (filter_map head_of sections) head

-- a problem has no section `:domain` or no section `:goal`, whatever they hold
abbrev pub IsIncomplete : Role → Tree → Place → Type 0
IsIncomplete ProblemFile tree place =
    (members : List Tree) × (members_of tree ≡ Some members) × (place ≡ place_of tree) × (Lacks (codes ":domain") (after_header members) ⊎ Lacks (codes ":goal") (after_header members))
IsIncomplete role tree place = ⊥

-- a fault of a part itself, or of its members side by side
abbrev pub IsOwnFault : Part → Place → ℕ → Type 0
IsOwnFault at place code =
    IsRefusedTree at place code
    ⊎ (IsRepeated at.role at.tree place × (code ≡ REPEATED_SECTION))
    ⊎ (IsIncomplete at.role at.tree place × (code ≡ MISSING_SECTION))

-- a fault occurs in a tree of a role: some part of the tree has that fault
pub record Stands (role : Role) (tree : Tree) (place : Place) (code : ℕ) : Type 0 where
  pub path : List ℕ
  pub at : Part
  pub reached : part_at (part role tree) path ≡ Some at
  pub own : IsOwnFault at place code

-- no fault occurs in a tree of a role
abbrev pub Fits : Role → Tree → Type 0
Fits role tree = IsClean (λ place code. Stands role tree place code)

-- a fault occurs in a domain
abbrev pub StandsInDomain : Tree → Place → ℕ → Type 0
StandsInDomain tree place code = Stands DomainFile tree place code

-- a fault occurs in a problem
abbrev pub StandsInProblem : Tree → Place → ℕ → Type 0
StandsInProblem tree place code = Stands ProblemFile tree place code
