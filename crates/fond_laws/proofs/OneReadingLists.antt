-- Typed lists, declared predicates and initial atoms: at most one is read from a tree.
use Rattle.std.proofs.Common.{◌≡◌, ◌⊎◌, inl, inr, ℕ, ◌==◌, ◌&&◌, Bool, true, false, not, List, [], ◌∷◌, map, length, Option, Some, None, codes, refl, sym, ap, subst, ◌∙◌, if◌then◌else◌}
use Rattle.std.specs.Str.{bytes_eq}
use Rattle.std.proofs.lemmas.Slice.Eq.{bytes_eq-Decides}
use Rattle.fond_text.specs.Lists.{each_passes}
use Rattle.fond_text.specs.declared.place.Place.{Place}
use Rattle.fond_tree.specs.declared.tree.Tree.{Tree, out-Tree}
use Rattle.fond_tree.specs.declared.tree.Tree.TheOpen.{Tree-F, Leaf, Node}
use Rattle.fond_tree.specs.Trees.{leaf_step, members_step, members_of, leaf_of}
use Rattle.fond_ast.specs.declared.names.Kind.{Kind}
use Rattle.fond_ast.specs.declared.names.ReadAtom.{ReadAtom}
use Rattle.fond_tree.specs.Words.{is_name, is_variable}
use Rattle.fond_tree.proofs.Again.{or_cases}
use Rattle.fond_reader.specs.Bodies.{is_atom, is_initial}
use Rattle.fond_reader.specs.Files.{are_of_declared, is_declared}
use Rattle.fond_reader.specs.Forms.{is_place, is_sorted, is_named, is_form}
use Rattle.fond_reader.specs.Typed.{typed_leaves, is_kind, is_one_kind, are_kinds, is_object_alone, have_type, is_declared_by, are_names, are_variables, is_variable_list}
use Rattle.fond_reader.proofs.Lengths.{empty}
use Rattle.fond_reader.proofs.ReadLeaves.{atom_there}
use Rattle.fond_reader.proofs.Shapes.{form_there, one_operand, variables_are}
use Rattle.fond_reader.proofs.Through.{first_of_both, second_of_both}
use Rattle.fond_laws.proofs.OneReadingLeaves.{IsReadOnce, lists_once, place_is, sorted_is, sorted_once, atom_once, kind_once}

-- a leaf has no members
pub leaf_apart : (tree : Tree) (leaf : List ℕ) (members : List Tree) → leaf_of tree ≡ Some leaf → ¬ members_of tree ≡ Some members
leaf_apart tree leaf members = from (out-Tree tree) where
  from : (layer : Tree-F Tree) → leaf_step layer ≡ Some leaf → ¬ members_step layer ≡ Some members
  from (Leaf place name) one two = cc
  from (Node place inner) one two = cc

-- a tree is read as the types of a declared name in at most one way
pub one_kind_once : IsReadOnce is_one_kind
one_kind_once kinds others tree is also = lists_once is_kind kind_once kinds others (tree ∷ []) is also

-- a type that is one name is no `either`
kind_apart : (kinds : List Kind) (reads : List (Tree → Bool)) (word : List ℕ) (tree : Tree) → is_one_kind kinds tree ≡ true → ¬ is_form word reads tree ≡ true
kind_apart [] reads word tree is form = cc
kind_apart (kind ∷ kinds) reads word tree is form =
    let leaf = sorted_is is_name kind.place kind.name tree (first_of_both _ _ is) in
    let there = form_there word reads tree form in
    leaf_apart tree kind.name (there.has.head ∷ there.after) leaf.1 there.has.whole

-- an `either` is read as one list of types
eithers_once : (kinds others : List Kind) (tree : Tree) → is_form (codes "either") (map is_kind kinds) tree ≡ true → is_form (codes "either") (map is_kind others) tree ≡ true → kinds ≡ others
eithers_once kinds others tree is also =
    let one = form_there (codes "either") (map is_kind kinds) tree is in
    let two = form_there (codes "either") (map is_kind others) tree also in
    let whole : Some (one.has.head ∷ one.after) ≡ Some (two.has.head ∷ two.after) = sym one.has.whole ∙ two.has.whole in
    let after : one.after ≡ two.after = cc in
    lists_once is_kind kind_once kinds others two.after (subst (λ ts. each_passes (map is_kind kinds) ts ≡ true) after one.read) two.read

-- a tree is read as the types of a variable in at most one way
pub kinds_once : IsReadOnce are_kinds
kinds_once kinds others tree is also =
    from (or_cases (is_one_kind kinds tree) _ is) (or_cases (is_one_kind others tree) _ also)
  where
    from : (is_one_kind kinds tree ≡ true) ⊎ ((not (length kinds == 0) && is_form (codes "either") (map is_kind kinds) tree) ≡ true) → (is_one_kind others tree ≡ true) ⊎ ((not (length others == 0) && is_form (codes "either") (map is_kind others) tree) ≡ true) → kinds ≡ others
    from (inl one) (inl two) = one_kind_once kinds others tree one two
    from (inl one) (inr two) = absurd (kind_apart kinds (map is_kind others) (codes "either") tree one (second_of_both (not (length others == 0)) _ two))
    from (inr one) (inl two) = absurd (kind_apart others (map is_kind kinds) (codes "either") tree two (second_of_both (not (length kinds == 0)) _ one))
    from (inr one) (inr two) = eithers_once kinds others tree (second_of_both (not (length kinds == 0)) _ one) (second_of_both (not (length others == 0)) _ two)

-- `object` alone, at this place
object_alone : (place : Place) (kinds : List Kind) → is_object_alone place kinds ≡ true → kinds ≡ record { place = place; name = codes "object" } ∷ []
object_alone place [] is = absurd (cc)
object_alone place (kind ∷ kinds) is =
    let both = first_of_both (bytes_eq kind.name (codes "object") && is_place kind.place place) _ is in
    let name = (bytes_eq-Decides kind.name (codes "object")).0 (first_of_both _ _ both) in
    let at = place_is kind.place place (second_of_both (bytes_eq kind.name (codes "object")) _ both) in
    let none = empty kinds (second_of_both (bytes_eq kind.name (codes "object") && is_place kind.place place) _ is) in
    λ i. record { place = at i; name = name i } ∷ none i

-- a leaf with its type is declared as at most one name
pub declaration_once : (sort : List ℕ → Bool) (type : List Kind → Tree → Bool) → IsReadOnce type → IsReadOnce (is_declared_by sort type)
declaration_once sort type once name other leaf is also =
    let one = sorted_once sort sort name.place other.place name.name other.name leaf.leaf (first_of_both _ _ is) (first_of_both _ _ also) in
    let kinds = from leaf.type (second_of_both (is_sorted sort name.place name.name leaf.leaf) _ is) (second_of_both (is_sorted sort other.place other.name leaf.leaf) _ also) one.0 in
    λ i. record { place = one.0 i; name = one.1 i; kinds = kinds i }
  where
    from : (written : Option Tree) → have_type type name.place name.kinds written ≡ true → have_type type other.place other.kinds written ≡ true → name.place ≡ other.place → name.kinds ≡ other.kinds
    from None one two same = object_alone name.place name.kinds one ∙ ap (λ place. record { place = place; name = codes "object" } ∷ []) same ∙ sym (object_alone other.place other.kinds two)
    from (Some tree) one two same = once name.kinds other.kinds tree one two

-- a typed list is read as at most one list of names
pub names_once : IsReadOnce are_names
names_once names others trees is also =
    lists_once (is_declared_by is_name is_one_kind) (declaration_once is_name is_one_kind one_kind_once) names others (typed_leaves false trees) is also

-- a typed list is read as at most one list of variables
pub variables_once : IsReadOnce are_variables
variables_once names others trees is also =
    lists_once (is_declared_by is_variable are_kinds) (declaration_once is_variable are_kinds kinds_once) names others (typed_leaves false trees) is also

-- a node is read as at most one list of variables
pub variable_list_once : IsReadOnce is_variable_list
variable_list_once names others tree is also =
    let one = variables_are tree names is in
    let two = variables_are tree others also in
    let whole : Some one.0 ≡ Some two.0 = sym one.1 ∙ two.1 in
    let same : one.0 ≡ two.0 = cc in
    variables_once names others two.0 (subst (λ ts. are_variables names ts ≡ true) same one.2) two.2

-- a tree is read as at most one declared predicate
pub declared_once : IsReadOnce is_declared
declared_once declared other tree is also = from (members_of tree) is also where
  from : (members : Option (List Tree)) → are_of_declared declared members ≡ true → are_of_declared other members ≡ true → declared ≡ other
  from None one two = absurd (cc)
  from (Some []) one two = absurd (cc)
  from (Some (name ∷ after)) one two =
      let leaf = sorted_once is_name is_name declared.place other.place declared.name other.name name (first_of_both _ _ one) (first_of_both _ _ two) in
      let parameters = variables_once declared.parameters other.parameters after (second_of_both (is_named declared.place declared.name name) _ one) (second_of_both (is_named other.place other.name name) _ two) in
      λ i. record { place = leaf.0 i; name = leaf.1 i; parameters = parameters i }

-- a node that is read as an atom is no form of a word that is no name
pub atom_apart : (atom : ReadAtom) (word : List ℕ) (reads : List (Tree → Bool)) (tree : Tree) → is_name word ≡ false → is_atom atom tree ≡ true → ¬ is_form word reads tree ≡ true
atom_apart atom word reads tree plain is form =
    let one = atom_there atom tree is in
    let two = form_there word reads tree form in
    let whole : Some (one.has.head ∷ one.after) ≡ Some (two.has.head ∷ two.after) = sym one.has.whole ∙ two.has.whole in
    let head : one.has.head ≡ two.has.head = cc in
    let leaf : Some one.name ≡ Some word = sym one.has.leaf ∙ ap leaf_of head ∙ two.has.leaf in
    let name : one.name ≡ word = cc in
    let clash : true ≡ false = sym one.named ∙ ap is_name name ∙ plain in
    cc

-- a tree is read as at most one initial atom
pub initial_once : IsReadOnce is_initial
initial_once initial other tree is also = λ i. record { positive = (both.0) i; atom = (both.1) i } where
  negated : (atom next : ReadAtom) → is_form (codes "not") (is_atom atom ∷ []) tree ≡ true → is_form (codes "not") (is_atom next ∷ []) tree ≡ true → atom ≡ next
  negated atom next one two =
      let here = form_there (codes "not") (is_atom atom ∷ []) tree one in
      let there = form_there (codes "not") (is_atom next ∷ []) tree two in
      let whole : Some (here.has.head ∷ here.after) ≡ Some (there.has.head ∷ there.after) = sym here.has.whole ∙ there.has.whole in
      let after : here.after ≡ there.after = cc in
      let first = one_operand (is_atom atom) here.after here.read in
      let second = one_operand (is_atom next) there.after there.read in
      let ends : first.0 ∷ [] ≡ second.0 ∷ [] = sym first.1 ∙ after ∙ second.1 in
      let same : first.0 ≡ second.0 = cc in
      atom_once atom next second.0 (subst (λ t. is_atom atom t ≡ true) same first.2) second.2

  from : (one two : Bool) → (if one then is_atom initial.atom tree else is_form (codes "not") (is_atom initial.atom ∷ []) tree) ≡ true →
      (if two then is_atom other.atom tree else is_form (codes "not") (is_atom other.atom ∷ []) tree) ≡ true → (one ≡ two) × (initial.atom ≡ other.atom)
  from true true here there = (refl, atom_once initial.atom other.atom tree here there)
  from true false here there = absurd (atom_apart initial.atom (codes "not") (is_atom other.atom ∷ []) tree refl here there)
  from false true here there = absurd (atom_apart other.atom (codes "not") (is_atom initial.atom ∷ []) tree refl there here)
  from false false here there = (refl, negated initial.atom other.atom here there)

  both : (initial.positive ≡ other.positive) × (initial.atom ≡ other.atom)
  both = from initial.positive other.positive is also
