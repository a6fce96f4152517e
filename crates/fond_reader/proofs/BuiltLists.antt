-- Some declaration is read from each leaf, atom and typed list that fits.
use Rattle.std.proofs.Common.{◌≡◌, ◌==◌, ◌&&◌, ◌||◌, Bool, true, false, not, List, [], ◌∷◌, map, length, Option, Some, None, codes, refl, ap, subst, ◌∙◌, if◌then◌else◌}
use Rattle.std.proofs.Math.Bool.{or-true}
use Rattle.std.specs.List.{AllByRecursion}
use Rattle.fond_text.specs.Lists.{each_passes}
use Rattle.fond_text.specs.declared.place.Place.{Place}
use Rattle.fond_tree.specs.declared.tree.Tree.{Tree}
use Rattle.fond_tree.specs.Trees.{place_of, is_node}
use Rattle.fond_ast.specs.declared.files.Declared.{Declared}
use Rattle.fond_ast.specs.declared.names.Kind.{Kind}
use Rattle.fond_ast.specs.declared.names.ReadAtom.{ReadAtom}
use Rattle.fond_ast.specs.declared.names.Term.{Term}
use Rattle.fond_ast.specs.declared.names.TypedName.{TypedName}
use Rattle.fond_tree.specs.declared.role.Role.TheVariants as role
use Rattle.fond_tree.specs.Parts.{part, is_dash, typed}
use Rattle.fond_tree.specs.Roles.{is_term as is_term_leaf}
use Rattle.fond_tree.specs.Words.{is_name, is_variable}
use Rattle.fond_tree.specs.FormFaults.{Fits}
use Rattle.fond_tree.proofs.Fitting.{AllFit, each_fits}
use Rattle.fond_tree.proofs.FittingLeaves.{name_fits, term_fits}
use Rattle.fond_tree.proofs.FittingNodes.{atom_there, predicate_there, variables_there, type_name, either_there}
use Rattle.fond_reader.specs.Bodies.{is_term, is_atom}
use Rattle.fond_reader.specs.Files.{is_declared, are_of_declared}
use Rattle.fond_reader.specs.Forms.{is_form}
use Rattle.fond_reader.specs.Sorts.{leaf_role, type_role, type_test, leaf_test, FitsTyped, is_read_from, are_read_from}
use Rattle.fond_reader.specs.Typed.{typed_leaves, next_type, is_kind, is_one_kind, are_kinds, have_type, is_variable_list}
use Rattle.fond_reader.specs.declared.typed.Sort.{Sort}
use Rattle.fond_reader.specs.declared.typed.Sort.TheVariants.{Names, Variables}
use Rattle.fond_reader.proofs.Groups.{leaf_there, dash_unfit}
use Rattle.fond_reader.proofs.Named.{same_place, same_truth, sorted_at, atom_read}
use Rattle.fond_reader.proofs.Through.{both_hold}
use Rattle.fond_reader.proofs.TypeNames.{word_is}
use Rattle.fond_reader.proofs.Operators.{form_read}
use Rattle.fond_reader.proofs.Shapes.{some_read}

-- trees are read one by one if each is read
pub each_built : {X : Type 0} (read : X → Tree → Bool) (P : Tree → Type 0) → ((tree : Tree) → P tree → (x : X) × (read x tree ≡ true)) → (trees : List Tree) → AllByRecursion P trees →
    (xs : List X) × (each_passes (map read xs) trees ≡ true)
each_built read P built [] all = ([], refl)
each_built read P built (t ∷ ts) all =
    let here = built t all.0 in
    let rest = each_built read P built ts all.1 in
    (here.0 ∷ rest.0, both_hold _ _ here.1 rest.1)

pub term_built : (tree : Tree) → Fits role.Term tree → (term : Term) × (is_term term tree ≡ true)
term_built tree fits =
    let l = term_fits tree fits in
    (record { place = place_of tree; name = l.leaf; variable = is_variable l.leaf }, both_hold _ _ (sorted_at is_term_leaf tree (place_of tree) l.leaf l refl l.is) (same_truth (is_variable l.leaf) (is_variable l.leaf) refl))

pub atom_built : (tree : Tree) → Fits role.Atom tree → (atom : ReadAtom) × (is_atom atom tree ≡ true)
atom_built tree fits =
    let node = atom_there tree fits in
    let l = name_fits node.head node.head_fits in
    let terms = each_built is_term (Fits role.Term) term_built node.after (each_fits role.Term node.after node.after_fit) in (
      record { place = place_of tree; head = place_of node.head; name = l.leaf; terms = terms.0 },
      atom_read (place_of tree) (place_of node.head) l.leaf terms.0 tree node.head node.after node.whole refl (sorted_at is_name node.head (place_of node.head) l.leaf l refl l.is) terms.1,
    )

-- ---- types

kind_built : (tree : Tree) → Fits role.Name tree → (kind : Kind) × (is_kind kind tree ≡ true)
kind_built tree fits = let l = name_fits tree fits in (record { place = place_of tree; name = l.leaf }, sorted_at is_name tree (place_of tree) l.leaf l refl l.is)

one_kind_built : (tree : Tree) → Fits role.Name tree → (kinds : List Kind) × (is_one_kind kinds tree ≡ true)
one_kind_built tree fits = let k = kind_built tree fits in (k.0 ∷ [], both_hold _ _ k.1 refl)

pub type_built : (sort : Sort) (tree : Tree) → Fits (type_role sort) tree → (kinds : List Kind) × (type_test sort kinds tree ≡ true)
type_built Names tree fits = one_kind_built tree fits
type_built Variables tree fits = from (is_node tree) refl where
  from : (node : Bool) → is_node tree ≡ node → (kinds : List Kind) × (are_kinds kinds tree ≡ true)
  from false is =
      let one = one_kind_built tree (type_name tree fits is) in
      (one.0, ap (λ b. b || (not (length one.0 == 0) && is_form (codes "either") (map is_kind one.0) tree)) one.1)
  from true is =
      let e = either_there tree fits is in
      let kinds = each_built is_kind (Fits role.Name) kind_built (e.first ∷ e.names) e.names_fit in
      let form = form_read (codes "either") (map is_kind kinds.0) tree e.head (e.first ∷ e.names) e.whole (word_is e.head e.head_fits) kinds.1 in
      (kinds.0, ap (λ b. is_one_kind kinds.0 tree || b) (both_hold _ _ (some_read is_kind kinds.0 e.first e.names kinds.1) form) ∙ or-true (is_one_kind kinds.0 tree))

-- the types of a leaf
have_built : (sort : Sort) (place : Place) (type : Option Tree) → ((tree : Tree) → type ≡ Some tree → Fits (type_role sort) tree) → (kinds : List Kind) × (have_type (type_test sort) place kinds type ≡ true)
have_built sort place None fits = (record { place = place; name = codes "object" } ∷ [], both_hold _ _ (same_place place) refl)
have_built sort place (Some tree) fits = type_built sort tree (fits tree refl)

-- ---- typed lists

module _ (sort : Sort) where
  -- the type that the next `-` gives fits
  next_fits : (trees : List Tree) → AllFit (typed (leaf_role sort) (type_role sort) true trees) → (type : Tree) → next_type trees ≡ Some type → Fits (type_role sort) type
  next_fits [] fit type is = cc
  next_fits (t ∷ []) fit type is = cc
  next_fits (t ∷ u ∷ us) fit type is = step (is_dash t) (next_fits (u ∷ us)) fit is where
    step : (dash : Bool) → (AllFit (typed (leaf_role sort) (type_role sort) true (u ∷ us)) → (k : Tree) → next_type (u ∷ us) ≡ Some k → Fits (type_role sort) k) →
        AllFit (if true && dash then part (type_role sort) u ∷ typed (leaf_role sort) (type_role sort) false us else part (leaf_role sort) t ∷ typed (leaf_role sort) (type_role sort) (not dash) (u ∷ us)) →
        (if dash then Some u else next_type (u ∷ us)) ≡ Some type → Fits (type_role sort) type
    step true rest all given = let same : u ≡ type = cc in subst (Fits (type_role sort)) same all.0
    step false rest all given = rest all.1 type given

  leaf_built : (tree : Tree) (type : Option Tree) → Fits (leaf_role sort) tree → ((t : Tree) → type ≡ Some t → Fits (type_role sort) t) → (name : TypedName) × (is_read_from sort name (record { leaf = tree; type = type }) ≡ true)
  leaf_built tree type fits typed_fits =
      let l = leaf_there sort tree fits in
      let kinds = have_built sort (place_of tree) type typed_fits in
      (record { place = place_of tree; name = l.leaf; kinds = kinds.0 }, both_hold _ _ (sorted_at (leaf_test sort) tree (place_of tree) l.leaf l refl l.is) kinds.1)

  pub typed_built : (untyped : Bool) (trees : List Tree) → AllFit (typed (leaf_role sort) (type_role sort) untyped trees) → (names : List TypedName) × (are_read_from sort names (typed_leaves untyped trees) ≡ true)
  typed_built untyped [] fit = ([], refl)
  typed_built untyped (t ∷ []) fit = let one = leaf_built t None fit.0 (λ type is. cc) in (one.0 ∷ [], both_hold _ _ one.1 refl)
  typed_built untyped (t ∷ u ∷ us) fit = step untyped (is_dash t) refl (typed_built false us) (typed_built true (u ∷ us)) fit where
    step : (b dash : Bool) → is_dash t ≡ dash → (AllFit (typed (leaf_role sort) (type_role sort) false us) → (names : List TypedName) × (are_read_from sort names (typed_leaves false us) ≡ true)) →
        (AllFit (typed (leaf_role sort) (type_role sort) true (u ∷ us)) → (names : List TypedName) × (are_read_from sort names (typed_leaves true (u ∷ us)) ≡ true)) →
        AllFit (if b && dash then part (type_role sort) u ∷ typed (leaf_role sort) (type_role sort) false us else part (leaf_role sort) t ∷ typed (leaf_role sort) (type_role sort) (not dash) (u ∷ us)) →
        (names : List TypedName) × (are_read_from sort names (if b && dash then typed_leaves false us else record { leaf = t; type = next_type (u ∷ us) } ∷ typed_leaves (not dash) (u ∷ us)) ≡ true)
    step true true is after next all = after all.1
    step false true is after next all = absurd (dash_unfit sort t is all.0)
    step true false is after next all =
        let one = leaf_built t (next_type (u ∷ us)) all.0 (λ type given. next_fits (u ∷ us) all.1 type given) in
        let rest = next all.1 in
        (one.0 ∷ rest.0, both_hold _ _ one.1 rest.1)
    step false false is after next all =
        let one = leaf_built t (next_type (u ∷ us)) all.0 (λ type given. next_fits (u ∷ us) all.1 type given) in
        let rest = next all.1 in
        (one.0 ∷ rest.0, both_hold _ _ one.1 rest.1)

  pub list_built : (trees : List Tree) → FitsTyped sort trees → (names : List TypedName) × (are_read_from sort names (typed_leaves false trees) ≡ true)
  list_built trees fit = typed_built false trees fit

pub variables_built : (tree : Tree) → Fits role.Variables tree → (names : List TypedName) × (is_variable_list names tree ≡ true)
variables_built tree fits =
    let there = variables_there tree fits in
    let names = list_built Variables there.0 there.2 in
    (names.0, rw there.1 names.1)

pub predicate_built : (tree : Tree) → Fits role.Predicate tree → (declared : Declared) × (is_declared declared tree ≡ true)
predicate_built tree fits =
    let node = predicate_there tree fits in
    let l = name_fits node.head node.head_fits in
    let names = list_built Variables node.after node.after_fit in
    let declared : Declared = record { place = place_of node.head; name = l.leaf; parameters = names.0 } in
    (declared, ap (are_of_declared declared) node.whole ∙ both_hold _ _ (sorted_at is_name node.head (place_of node.head) l.leaf l refl l.is) names.1)
