-- Which domain and which problem a tree is read as.
use Rattle.std.specs.Prelude.{◌≡◌, ℕ, ◌&&◌, ◌≤◌, Bool, true, false, List, [], ◌∷◌, map, filter, length, Contains, Option, Some, None, codes, if◌then◌else◌}
use Rattle.std.specs.List.{AllZip, list_all, flat_map}
use Rattle.fond_text.specs.Lists.{each_passes}
use Rattle.fond_tree.specs.declared.tree.Tree.{Tree}
use Rattle.fond_ast.specs.declared.files.Declared.{Declared}
use Rattle.fond_ast.specs.declared.files.Domain.{Domain}
use Rattle.fond_ast.specs.declared.files.Problem.{Problem}
use Rattle.fond_ast.specs.declared.files.Schema.{Schema}
use Rattle.fond_ast.specs.declared.names.TypedName.{TypedName}
use Rattle.fond_ast.specs.declared.syntax.Cond.{Cond, Truth}
use Rattle.fond_ast.specs.declared.syntax.Effect.{Effect, Nothing}
use Rattle.fond_tree.specs.Words.{is_name, is_word, has_head}
use Rattle.fond_tree.specs.Trees.{head_of, members_of, leaf_of, place_of}
use Rattle.fond_tree.specs.Roles.{passed_over, action_keys, is_headed_by}
use Rattle.fond_tree.specs.Parts.{are_pairs}
use Rattle.fond_tree.specs.FormFaults.{keys, single_in_domain, single_in_problem}
use Rattle.fond_reader.specs.Forms.{is_named, is_only}
use Rattle.fond_reader.specs.Typed.{are_names, are_variables, is_variable_list}
use Rattle.fond_reader.specs.Bodies.{is_condition, is_effect, is_initial}

-- whether a tree is a leaf that is a name
abbrev pub is_name_leaf : Tree → Bool
is_name_leaf tree = from (leaf_of tree)
  where
    from : Option (List ℕ) → Bool
    from None = false
    from (Some leaf) = is_name leaf

-- whether members are this word and a name
abbrev pub are_header : List ℕ → Option (List Tree) → Bool
are_header kind None = false
are_header kind (Some []) = false
are_header kind (Some (word ∷ after)) = is_word kind (leaf_of word) && is_only is_name_leaf (Some after)

-- a tree is a file of this kind with these sections: `define`, then a node of the kind and a name, then the sections
pub record IsFile (kind : List ℕ) (tree : Tree) (sections : List Tree) : Type 0 where
  pub define : Tree
  pub header : Tree
  pub whole : members_of tree ≡ Some (define ∷ header ∷ sections)
  pub defined : is_word (codes "define") (leaf_of define) ≡ true
  pub headed : are_header kind (members_of header) ≡ true

-- the sections with this head
abbrev pub headed : List ℕ → List Tree → List Tree
headed word sections = filter (has_head word) sections

-- trees without the first one
abbrev pub but_first : Option (List Tree) → List Tree
but_first None = []
but_first (Some []) = []
but_first (Some (tree ∷ trees)) = trees

-- the members of a node after its head
abbrev pub content : Tree → List Tree
content tree = but_first (members_of tree)

-- the contents of the sections with this head, in order
abbrev pub contents : List ℕ → List Tree → List Tree
contents word sections = flat_map content (headed word sections)

-- each of these heads occurs at most once
abbrev pub AreSingle : List (List ℕ) → List Tree → Type 0
AreSingle single sections = (word : List ℕ) → Contains single word → length (headed word sections) ≤ 1

-- whether a tree is a section of a domain
abbrev pub is_domain_section : Tree → Bool
is_domain_section tree =
    is_headed_by (codes ":requirements" ∷ codes ":types" ∷ codes ":constants" ∷ codes ":predicates" ∷ codes ":action" ∷ []) (head_of tree)

-- whether a tree is a section of a problem; some are passed over
abbrev pub is_problem_section : Tree → Bool
is_problem_section tree =
    is_headed_by (codes ":requirements" ∷ codes ":domain" ∷ codes ":objects" ∷ codes ":init" ∷ codes ":goal" ∷ passed_over) (head_of tree)

-- whether members are those of a declared predicate: its name and a typed list of variables
abbrev pub are_of_declared : Declared → Option (List Tree) → Bool
are_of_declared declared None = false
are_of_declared declared (Some []) = false
are_of_declared declared (Some (name ∷ after)) = is_named declared.place declared.name name && are_variables declared.parameters after

-- whether a tree is read as a declared predicate
abbrev pub is_declared : Declared → Tree → Bool
is_declared declared tree = are_of_declared declared (members_of tree)

-- the values of this key, among pairs of a key and a value
abbrev pub values : List ℕ → List Tree → List Tree
values word [] = []
values word (key ∷ []) = []
values word (key ∷ value ∷ pairs) = if is_word word (leaf_of key) then value ∷ values word pairs else values word pairs

-- the only value of `:parameters` is read as variables; without one there are none
abbrev pub AreParameters : List Tree → List TypedName → Type 0
AreParameters [] names = names ≡ []
AreParameters (tree ∷ trees) names = (is_variable_list names tree ≡ true) × (trees ≡ [])

-- the only value of `:precondition` is read as a condition; without one it is the true condition
abbrev pub IsPrecondition : List Tree → Cond → Type 0
IsPrecondition [] pre = pre ≡ Truth
IsPrecondition (tree ∷ trees) pre = (is_condition pre tree ≡ true) × (trees ≡ [])

-- the only value of `:effect` is read as an effect; without one it is the empty effect
abbrev pub IsKeyedEffect : List Tree → Effect → Type 0
IsKeyedEffect [] effect = effect ≡ Nothing
IsKeyedEffect (tree ∷ trees) effect = (is_effect effect tree ≡ true) × (trees ≡ [])

-- a node is read as a schema: after its head come its name, and pairs of a key and a value, each key at most once
pub record IsSchemaOf (tree : Tree) (schema : Schema) : Type 0 where
  pub head : Tree
  pub name : Tree
  pub pairs : List Tree
  pub whole : members_of tree ≡ Some (head ∷ name ∷ pairs)
  pub named : is_named schema.place schema.name name ≡ true
  pub paired : are_pairs pairs ≡ true
  pub known : list_all (λ key. is_headed_by action_keys (leaf_of key)) (keys pairs) ≡ true
  pub parameters : AreParameters (values (codes ":parameters") pairs) schema.parameters
  pub pre : IsPrecondition (values (codes ":precondition") pairs) schema.pre
  pub effect : IsKeyedEffect (values (codes ":effect") pairs) schema.effect

-- trees are read as schemas, one by one
abbrev pub AreSchemasOf : List Tree → List Schema → Type 0
AreSchemasOf = AllZip IsSchemaOf

-- a tree is read as a domain
pub record IsDomainOf (tree : Tree) (domain : Domain) : Type 0 where
  pub sections : List Tree
  pub file : IsFile (codes "domain") tree sections
  pub place : domain.place ≡ place_of tree
  pub known : list_all is_domain_section sections ≡ true
  pub single : AreSingle single_in_domain sections
  pub types : are_names domain.kinds (contents (codes ":types") sections) ≡ true
  pub constants : are_names domain.constants (contents (codes ":constants") sections) ≡ true
  pub predicates : each_passes (map is_declared domain.predicates) (contents (codes ":predicates") sections) ≡ true
  pub schemas : AreSchemasOf (headed (codes ":action") sections) domain.schemas

-- a tree is read as a problem
pub record IsProblemOf (tree : Tree) (problem : Problem) : Type 0 where
  pub sections : List Tree
  pub file : IsFile (codes "problem") tree sections
  pub place : problem.place ≡ place_of tree
  pub known : list_all is_problem_section sections ≡ true
  pub single : AreSingle single_in_problem sections
  pub domain : is_only is_name_leaf (Some (contents (codes ":domain") sections)) ≡ true
  pub objects : are_names problem.objects (contents (codes ":objects") sections) ≡ true
  pub init : each_passes (map is_initial problem.init) (contents (codes ":init") sections) ≡ true
  pub goal : each_passes (is_condition problem.goal ∷ []) (contents (codes ":goal") sections) ≡ true
