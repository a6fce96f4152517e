-- What is expected at the places of a domain and of a problem.
use Rattle.std.specs.Prelude.{ℕ, ◌&&◌, ◌||◌, Bool, false, List, [], ◌∷◌, Option, Some, None, codes, if◌then◌else◌}
use Rattle.std.specs.Str.{bytes_eq}
use Rattle.std.specs.List.{list_any}
use Rattle.fond_text.specs.declared.code.TheConstants.{MISFIT, UNKNOWN_SECTION, MISPLACED_OPERATOR, NO_CHOICE}
use Rattle.fond_tree.specs.declared.tree.Tree.{Tree}
use Rattle.fond_tree.specs.declared.role.FixedWord.{FixedWord}
use Rattle.fond_tree.specs.declared.role.FixedWord.TheVariants as fixed
use Rattle.fond_tree.specs.declared.role.Role.{Role}
use Rattle.fond_tree.specs.declared.role.Role.TheVariants.{DomainFile, ProblemFile, Word, Header, Head, Name, Variable, Term, DomainSection, ProblemSection, Predicate, Key, Variables, VariableType, Condition, Effect, Initial, Atom}
use Rattle.fond_tree.specs.declared.role.Rest.{Rest}
use Rattle.fond_tree.specs.declared.role.Rest.TheVariants.{NoMore, Each, Typed, Pairs, Unread}
use Rattle.fond_tree.specs.Words.{reserved, is_one_of, is_name, is_variable}
use Rattle.fond_tree.specs.Trees.{is_node, front, leaf_of}

-- the members that are expected of a node: the first of them one by one, and the rest
pub record Shape : Type 0 where
  pub first : List Role
  pub rest : Rest

-- the shape of these first members and this rest
abbrev pub shape : List Role → Rest → Shape
shape first rest = record { first = first; rest = rest }

-- what is expected of a node: members of a shape, or it is itself refused with a code
pub data Expected : Type 0 where
  Members : (members : Shape) → Expected
  Refused : (code : ℕ) → Expected

-- the bytes of a leaf that is required
abbrev pub word : FixedWord → List ℕ
word fixed.Define = codes "define"
word fixed.Domain = codes "domain"
word fixed.Problem = codes "problem"
word fixed.Either = codes "either"

-- a section of a domain, by its head
abbrev pub domain_section : List ℕ → Expected
domain_section head =
    if bytes_eq head (codes ":requirements") then Members (shape (Head ∷ []) Unread)
    else if bytes_eq head (codes ":types") then Members (shape (Head ∷ []) (Typed Name Name))
    else if bytes_eq head (codes ":constants") then Members (shape (Head ∷ []) (Typed Name Name))
    else if bytes_eq head (codes ":predicates") then Members (shape (Head ∷ []) (Each Predicate))
    else if bytes_eq head (codes ":action") then Members (shape (Head ∷ Name ∷ []) Pairs)
    else Refused UNKNOWN_SECTION

-- the sections of a problem that are passed over
abbrev pub passed_over : List (List ℕ)
passed_over = codes ":metric" ∷ codes ":goal-reward" ∷ codes ":length" ∷ []

-- a section of a problem, by its head
abbrev pub problem_section : List ℕ → Expected
problem_section head =
    if bytes_eq head (codes ":requirements") then Members (shape (Head ∷ []) Unread)
    else if bytes_eq head (codes ":domain") then Members (shape (Head ∷ Name ∷ []) NoMore)
    else if bytes_eq head (codes ":objects") then Members (shape (Head ∷ []) (Typed Name Name))
    else if bytes_eq head (codes ":init") then Members (shape (Head ∷ []) (Each Initial))
    else if bytes_eq head (codes ":goal") then Members (shape (Head ∷ Condition ∷ []) NoMore)
    else if is_one_of passed_over head then Members (shape (Head ∷ []) Unread)
    else Refused UNKNOWN_SECTION

-- an atom: a name and terms
abbrev pub atom : Shape
atom = shape (Name ∷ []) (Each Term)

-- an atom at a place where operators are allowed, by its head, which is no operator there: a reserved word is refused,
-- and so is a name with a node among the members after it
abbrev pub atom_or_refused : List ℕ → List Tree → Expected
atom_or_refused head after = if is_one_of reserved head || (is_name head && list_any is_node after) then Refused MISPLACED_OPERATOR else Members atom

-- a condition, by its head
abbrev pub condition : List ℕ → List Tree → Expected
condition head after =
    if is_one_of (codes "and" ∷ codes "or" ∷ []) head then Members (shape (Head ∷ []) (Each Condition))
    else if bytes_eq head (codes "not") then Members (shape (Head ∷ Condition ∷ []) NoMore)
    else if bytes_eq head (codes "imply") then Members (shape (Head ∷ Condition ∷ Condition ∷ []) NoMore)
    else if is_one_of (codes "forall" ∷ codes "exists" ∷ []) head then Members (shape (Head ∷ Variables ∷ Condition ∷ []) NoMore)
    else if bytes_eq head (codes "=") then Members (shape (Head ∷ Term ∷ Term ∷ []) NoMore)
    else atom_or_refused head after

-- a choice has at least one member
abbrev pub choice : List Tree → Expected
choice [] = Refused NO_CHOICE
choice (tree ∷ trees) = Members (shape (Head ∷ []) (Each Effect))

-- an effect, by its head
abbrev pub effect : List ℕ → List Tree → Expected
effect head after =
    if bytes_eq head (codes "and") then Members (shape (Head ∷ []) (Each Effect))
    else if bytes_eq head (codes "not") then Members (shape (Head ∷ Atom ∷ []) NoMore)
    else if bytes_eq head (codes "forall") then Members (shape (Head ∷ Variables ∷ Effect ∷ []) NoMore)
    else if bytes_eq head (codes "when") then Members (shape (Head ∷ Condition ∷ Effect ∷ []) NoMore)
    else if bytes_eq head (codes "oneof") then choice after
    else atom_or_refused head after

-- an initial atom, by its head
abbrev pub initial : List ℕ → List Tree → Expected
initial head after = if bytes_eq head (codes "not") then Members (shape (Head ∷ Atom ∷ []) NoMore) else atom_or_refused head after

-- a section by its head; if that is missing or no leaf, a leaf is expected there
abbrev pub section : (List ℕ → Expected) → Option (List ℕ) → Expected
section by_head None = Members (shape (Name ∷ []) Unread)
section by_head (Some head) = by_head head

-- a form by its head, or an atom if that is no leaf
abbrev pub form : (List ℕ → List Tree → Expected) → Option (List ℕ) → List Tree → Expected
form by_head None after = Members atom
form by_head (Some head) after = by_head head after

-- a form by its members, or this shape if there are none
abbrev pub form_of : Shape → (List ℕ → List Tree → Expected) → List Tree → Expected
form_of empty by_head [] = Members empty
form_of empty by_head (head ∷ after) = form by_head (leaf_of head) after

-- no members
abbrev pub none : Shape
none = shape [] NoMore

-- what is expected of the node of these members: none if a leaf is expected
abbrev pub node_expected : Role → List Tree → Option Expected
node_expected DomainFile members = Some (Members (shape (Word fixed.Define ∷ Header fixed.Domain ∷ []) (Each DomainSection)))
node_expected ProblemFile members = Some (Members (shape (Word fixed.Define ∷ Header fixed.Problem ∷ []) (Each ProblemSection)))
node_expected (Header kind) members = Some (Members (shape (Word kind ∷ Name ∷ []) NoMore))
node_expected DomainSection members = Some (section domain_section (front members))
node_expected ProblemSection members = Some (section problem_section (front members))
node_expected Predicate members = Some (Members (shape (Name ∷ []) (Typed Variable VariableType)))
node_expected Variables members = Some (Members (shape [] (Typed Variable VariableType)))
node_expected VariableType members = Some (Members (shape (Word fixed.Either ∷ Name ∷ []) (Each Name)))
node_expected Condition members = Some (form_of none condition members)
node_expected Effect members = Some (form_of none effect members)
node_expected Initial members = Some (form_of atom initial members)
node_expected Atom members = Some (Members atom)
node_expected leaf members = None

-- the keys of an action
abbrev pub action_keys : List (List ℕ)
action_keys = codes ":parameters" ∷ codes ":precondition" ∷ codes ":effect" ∷ []

-- whether a leaf is a term: a name or a variable
abbrev pub is_term : List ℕ → Bool
is_term leaf = is_name leaf || is_variable leaf

-- the code with which a leaf is refused, if it is: F8 for an unknown key of an action, and F7 for any other leaf that
-- does not fit
abbrev pub leaf_code : Role → List ℕ → Option ℕ
leaf_code Head leaf = None
leaf_code (Word kind) leaf = if bytes_eq leaf (word kind) then None else Some MISFIT
leaf_code Name leaf = if is_name leaf then None else Some MISFIT
leaf_code Variable leaf = if is_variable leaf then None else Some MISFIT
leaf_code Term leaf = if is_term leaf then None else Some MISFIT
leaf_code VariableType leaf = if is_name leaf then None else Some MISFIT
leaf_code Key leaf = if is_one_of action_keys leaf then None else Some UNKNOWN_SECTION
leaf_code node leaf = Some MISFIT

-- whether there is a leaf, and it is one of these words
abbrev pub is_headed_by : List (List ℕ) → Option (List ℕ) → Bool
is_headed_by heads None = false
is_headed_by heads (Some head) = is_one_of heads head
