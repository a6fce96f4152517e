-- Nodes that fit roles of one form: atoms, predicates, lists of variables, types and headers.
use Rattle.std.proofs.Common.{◌≡◌, true, false, ℕ, List, [], ◌∷◌, Some, is_some, inl, inr, refl, sym, ap, ◌∙◌}
use Rattle.std.specs.List.{AllByRecursion}
use Rattle.fond_tree.specs.declared.tree.Tree.{Tree}
use Rattle.fond_tree.specs.Trees.{members_of, is_node}
use Rattle.fond_tree.specs.declared.role.Role.{Role}
use Rattle.fond_tree.specs.declared.role.Role.TheVariants as role
use Rattle.fond_tree.specs.declared.role.FixedWord.{FixedWord}
use Rattle.fond_tree.specs.declared.role.FixedWord.TheVariants as fixed
use Rattle.fond_tree.specs.declared.role.Rest.{Rest}
use Rattle.fond_tree.specs.declared.role.Rest.TheVariants.{NoMore, Each, Typed}
use Rattle.fond_tree.specs.Words.{is_name}
use Rattle.fond_tree.specs.Roles.{shape, Members, node_expected, leaf_code, atom}
use Rattle.fond_tree.specs.Parts.{typed, rest_parts}
use Rattle.fond_tree.specs.FormFaults.{Fits}
use Rattle.fond_tree.proofs.Fitting.{IsShaped, AllFit, leaf_or_node, node_there, shaped, each_fits, leaf_unrefused}
use Rattle.fond_tree.proofs.FittingLeaves.{passes_if, fits_name}

-- a node whose first member fits a role, and whose other members fit as a rest
pub record HasFirst (first : Role) (rest : Rest) (tree : Tree) : Type 0 where
  pub head : Tree
  pub after : List Tree
  pub whole : members_of tree ≡ Some (head ∷ after)
  pub head_fits : Fits first head
  pub after_fit : AllFit (rest_parts rest after)

first_of_shape : (first : Role) (rest : Rest) (tree : Tree) (members : List Tree) → members_of tree ≡ Some members → IsShaped (shape (first ∷ []) rest) members → HasFirst first rest tree
first_of_shape first rest tree [] is s = let counted = s.counted in absurd (cc)
first_of_shape first rest tree (head ∷ after) is s = record { head = head; after = after; whole = is; head_fits = s.inner.0; after_fit = s.inner.1 }

pub first_there : (of first : Role) (rest : Rest) (tree : Tree) → Fits of tree → ((leaf : List ℕ) → leaf_code of leaf ≡ Some 7) →
    ((members : List Tree) → node_expected of members ≡ Some (Members (shape (first ∷ []) rest))) → HasFirst first rest tree
first_there of first rest tree fits no_leaf expects =
    let node = node_there of tree fits no_leaf in
    first_of_shape first rest tree node.0 node.1 (shaped of tree fits node.0 (shape (first ∷ []) rest) node.1 (expects node.0))

pub atom_there : (tree : Tree) → Fits role.Atom tree → HasFirst role.Name (Each role.Term) tree
atom_there tree fits = first_there role.Atom role.Name (Each role.Term) tree fits (λ _. refl) (λ _. refl)

pub predicate_there : (tree : Tree) → Fits role.Predicate tree → HasFirst role.Name (Typed role.Variable role.VariableType) tree
predicate_there tree fits = first_there role.Predicate role.Name (Typed role.Variable role.VariableType) tree fits (λ _. refl) (λ _. refl)

-- the members of a list of variables
pub variables_there : (tree : Tree) → Fits role.Variables tree → (members : List Tree) × (members_of tree ≡ Some members) × AllFit (typed role.Variable role.VariableType false members)
variables_there tree fits =
    let node = node_there role.Variables tree fits (λ _. refl) in
    (node.0, node.1, (shaped role.Variables tree fits node.0 (shape [] (Typed role.Variable role.VariableType)) node.1 refl).inner)

-- the type of a variable is a name if it is a leaf, and else an `either` of at least one name
pub type_name : (tree : Tree) → Fits role.VariableType tree → is_node tree ≡ false → Fits role.Name tree
type_name tree fits leaf = elim (leaf_or_node tree) [
  | inl l ↦ fits_name tree (record { leaf = l.0; is = l.1; passes = passes_if (is_name l.0) 7 (leaf_unrefused role.VariableType tree fits l.0 l.1) })
  | inr node ↦ let other : true ≡ false = sym (ap is_some node.1) ∙ leaf in absurd (cc)
]

pub record IsEither (tree : Tree) : Type 0 where
  pub head : Tree
  pub first : Tree
  pub names : List Tree
  pub whole : members_of tree ≡ Some (head ∷ first ∷ names)
  pub head_fits : Fits (role.Word fixed.Either) head
  pub names_fit : AllByRecursion (Fits role.Name) (first ∷ names)

pub either_there : (tree : Tree) → Fits role.VariableType tree → is_node tree ≡ true → IsEither tree
either_there tree fits node = elim (leaf_or_node tree) [
  | inl l ↦ let other : false ≡ true = sym (ap is_some l.2) ∙ node in absurd (cc)
  | inr n ↦ from n.0 n.1 (shaped role.VariableType tree fits n.0 (shape (role.Word fixed.Either ∷ role.Name ∷ []) (Each role.Name)) n.1 refl)
] where
  from : (members : List Tree) → members_of tree ≡ Some members → IsShaped (shape (role.Word fixed.Either ∷ role.Name ∷ []) (Each role.Name)) members → IsEither tree
  from [] is s = let counted = s.counted in absurd (cc)
  from (head ∷ []) is s = let counted = s.counted in absurd (cc)
  from (head ∷ first ∷ names) is s = record { head = head; first = first; names = names; whole = is; head_fits = s.inner.0; names_fit = (s.inner.1.0, each_fits role.Name names s.inner.1.1) }

-- an initial atom has a head
pub initial_there : (tree : Tree) → Fits role.Initial tree → (head : Tree) × (after : List Tree) × (members_of tree ≡ Some (head ∷ after))
initial_there tree fits = let node = node_there role.Initial tree fits (λ _. refl) in from node.0 node.1 where
  from : (members : List Tree) → members_of tree ≡ Some members → (head : Tree) × (after : List Tree) × (members_of tree ≡ Some (head ∷ after))
  from [] is = let s = shaped role.Initial tree fits [] atom is refl in let counted = s.counted in absurd (cc)
  from (head ∷ after) is = (head, after, is)

-- the members of a header
pub header_there : (kind : FixedWord) (tree : Tree) → Fits (role.Header kind) tree → (first : Tree) × (name : Tree) × (members_of tree ≡ Some (first ∷ name ∷ [])) × Fits (role.Word kind) first × Fits role.Name name
header_there kind tree fits =
    let node = node_there (role.Header kind) tree fits (λ _. refl) in
    from node.0 node.1 (shaped (role.Header kind) tree fits node.0 (shape (role.Word kind ∷ role.Name ∷ []) NoMore) node.1 refl) where
      from : (members : List Tree) → members_of tree ≡ Some members → IsShaped (shape (role.Word kind ∷ role.Name ∷ []) NoMore) members →
          (first : Tree) × (name : Tree) × (members_of tree ≡ Some (first ∷ name ∷ [])) × Fits (role.Word kind) first × Fits role.Name name
      from [] is s = let counted = s.counted in absurd (cc)
      from (first ∷ []) is s = let counted = s.counted in absurd (cc)
      from (first ∷ name ∷ []) is s = (first, name, is, s.inner.0, s.inner.1.0)
      from (first ∷ name ∷ more ∷ rest) is s = let counted = s.counted in absurd (cc)
