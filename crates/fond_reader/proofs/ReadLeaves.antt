-- Leaves, atoms and typed lists that are read fit.
use Rattle.std.proofs.Common.{◌≡◌, inl, inr, ℕ, ◌==◌, ◌&&◌, Bool, true, false, not, List, [], ◌∷◌, map, length, Option, Some, None, codes, refl, sym, ap, subst, if◌then◌else◌}
use Rattle.std.specs.List.{AllByRecursion}
use Rattle.fond_text.specs.Lists.{each_passes}
use Rattle.fond_text.specs.declared.place.Place.{Place}
use Rattle.fond_tree.specs.declared.tree.Tree.{Tree}
use Rattle.fond_tree.specs.Trees.{members_of, leaf_of, place_of, is_node}
use Rattle.fond_ast.specs.declared.names.Kind.{Kind}
use Rattle.fond_ast.specs.declared.names.ReadAtom.{ReadAtom}
use Rattle.fond_ast.specs.declared.names.Term.{Term}
use Rattle.fond_ast.specs.declared.names.TypedName.{TypedName}
use Rattle.fond_tree.specs.declared.role.Role.TheVariants as role
use Rattle.fond_tree.specs.declared.role.FixedWord.TheVariants as fixed
use Rattle.fond_tree.specs.declared.role.Rest.TheVariants.{Each, Typed}
use Rattle.fond_tree.specs.Words.{is_word, is_name, is_variable}
use Rattle.fond_tree.specs.Roles.{is_term as is_term_leaf, shape, atom}
use Rattle.fond_tree.specs.Parts.{part, is_dash, typed}
use Rattle.fond_tree.specs.FormFaults.{Fits}
use Rattle.fond_tree.proofs.Again.{or_cases}
use Rattle.fond_tree.proofs.Fitting.{AllFit, IsShaped, node_fits, all_of_each}
use Rattle.fond_tree.proofs.FittingLeaves.{IsLeafOf, fits_name, fits_type_name, fits_variable, fits_term, fits_word}
use Rattle.fond_tree.proofs.Heads.{HasHead}
use Rattle.fond_reader.specs.Bodies.{is_term, is_atom, are_of_atom}
use Rattle.fond_reader.specs.Forms.{is_place, is_sorted, is_named, is_form}
use Rattle.fond_reader.specs.Sorts.{leaf_role, type_role, leaf_test, type_test, FitsTyped, is_read_from, are_read_from}
use Rattle.fond_reader.specs.Typed.{typed_leaves, next_type, is_kind, is_one_kind, have_type, is_variable_list}
use Rattle.fond_reader.specs.declared.typed.Sort.{Sort}
use Rattle.fond_reader.specs.declared.typed.Sort.TheVariants.{Names, Variables}
use Rattle.fond_reader.proofs.Named.{no_node_of}
use Rattle.fond_tree.proofs.Again.{word_is as leaf_is}
use Rattle.fond_reader.proofs.Shapes.{form_there, variables_are}
use Rattle.fond_reader.proofs.Through.{first_of_both, second_of_both, true_is_false}

-- a leaf that is read is of its sort
pub sorted_there : (sort : List ℕ → Bool) (place : Place) (name : List ℕ) (tree : Tree) → is_sorted sort place name tree ≡ true → IsLeafOf sort tree
sorted_there sort place name tree is = record {
  leaf = name;
  is = leaf_is name (leaf_of tree) (first_of_both _ _ (first_of_both (is_word name (leaf_of tree) && is_place place (place_of tree)) _ is));
  passes = second_of_both (is_word name (leaf_of tree) && is_place place (place_of tree)) _ is;
}

term_leaf : (term : Term) (tree : Tree) → is_term term tree ≡ true → IsLeafOf is_term_leaf tree
term_leaf term tree is = sorted_there is_term_leaf term.place term.name tree (first_of_both _ _ is)

pub term_fits : (term : Term) (tree : Tree) → is_term term tree ≡ true → Fits role.Term tree
term_fits term tree is = fits_term tree (term_leaf term tree is)

terms_fit : (terms : List Term) (trees : List Tree) → each_passes (map is_term terms) trees ≡ true → AllByRecursion (Fits role.Term) trees × AllByRecursion (λ tree. is_node tree ≡ false) trees
terms_fit [] [] is = (tt, tt)
terms_fit [] (t ∷ ts) is = absurd (cc)
terms_fit (x ∷ xs) [] is = absurd (cc)
terms_fit (x ∷ xs) (t ∷ ts) is =
    let leaf = term_leaf x t (first_of_both _ _ is) in
    let rest = terms_fit xs ts (second_of_both (is_term x t) _ is) in
    ((fits_term t leaf, rest.0), (no_node_of is_term_leaf t leaf, rest.1))

-- a node that is read as an atom
pub record IsAtomNode (tree : Tree) : Type 0 where
  pub name : List ℕ
  pub after : List Tree
  pub has : HasHead tree name after
  pub named : is_name name ≡ true
  pub leaves : AllByRecursion (λ tree. is_node tree ≡ false) after
  pub shape_is : IsShaped atom (has.head ∷ after)

pub atom_there : (read : ReadAtom) (tree : Tree) → is_atom read tree ≡ true → IsAtomNode tree
atom_there read tree is = from (members_of tree) refl (second_of_both (is_place read.place (place_of tree)) _ is) where
  from : (members : Option (List Tree)) → members_of tree ≡ members → are_of_atom read members ≡ true → IsAtomNode tree
  from None whole h = absurd (cc)
  from (Some []) whole h = absurd (cc)
  from (Some (head ∷ after)) whole h =
      let leaf = sorted_there is_name read.head read.name head (first_of_both _ _ h) in
      let terms = terms_fit read.terms after (second_of_both (is_named read.head read.name head) _ h) in
      record {
        name = leaf.leaf;
        after = after;
        has = record { head = head; whole = whole; leaf = leaf.is };
        named = leaf.passes;
        leaves = terms.1;
        shape_is = record { counted = refl; inner = (fits_name head leaf, all_of_each role.Term after terms.0) };
      }

-- ---- types

kind_fits : (kind : Kind) (tree : Tree) → is_kind kind tree ≡ true → Fits role.Name tree
kind_fits kind tree is = fits_name tree (sorted_there is_name kind.place kind.name tree is)

one_kind_leaf : (kinds : List Kind) (tree : Tree) → is_one_kind kinds tree ≡ true → IsLeafOf is_name tree
one_kind_leaf [] tree is = absurd (cc)
one_kind_leaf (kind ∷ kinds) tree is = sorted_there is_name kind.place kind.name tree (first_of_both _ _ is)

kinds_fit : (kinds : List Kind) (trees : List Tree) → each_passes (map is_kind kinds) trees ≡ true → AllByRecursion (Fits role.Name) trees
kinds_fit [] [] is = tt
kinds_fit [] (t ∷ ts) is = absurd (cc)
kinds_fit (k ∷ ks) [] is = absurd (cc)
kinds_fit (k ∷ ks) (t ∷ ts) is = (kind_fits k t (first_of_both _ _ is), kinds_fit ks ts (second_of_both (is_kind k t) _ is))

nothing : (ks : List Kind) → not (length ks == 0) ≡ true → ¬ each_passes (map is_kind ks) [] ≡ true
nothing [] some read = true_is_false (sym some)
nothing (k ∷ ks) some read = true_is_false (sym read)

either_fits : (kinds : List Kind) (tree : Tree) → not (length kinds == 0) ≡ true → is_form (codes "either") (map is_kind kinds) tree ≡ true → Fits role.VariableType tree
either_fits kinds tree some is =
    let form = form_there (codes "either") (map is_kind kinds) tree is in
    from form.after form.has form.read where
      from : (after : List Tree) → HasHead tree (codes "either") after → each_passes (map is_kind kinds) after ≡ true → Fits role.VariableType tree
      from [] has read = absurd (nothing kinds some read)
      from (first ∷ names) has read =
          let fit = kinds_fit kinds (first ∷ names) read in
          node_fits role.VariableType tree (λ place again. again) (λ place lacks. lacks) (has.head ∷ first ∷ names) (shape (role.Word fixed.Either ∷ role.Name ∷ []) (Each role.Name)) has.whole refl
          (record { counted = refl; inner = (fits_word fixed.Either has.head (record { leaf = codes "either"; is = has.leaf; passes = refl }), (fit.0, all_of_each role.Name names fit.1)) })

type_fits : (sort : Sort) (kinds : List Kind) (tree : Tree) → type_test sort kinds tree ≡ true → Fits (type_role sort) tree
type_fits Names kinds tree is = fits_name tree (one_kind_leaf kinds tree is)
type_fits Variables kinds tree is = elim (or_cases (is_one_kind kinds tree) _ is) [
  | inl one ↦ fits_type_name tree (one_kind_leaf kinds tree one)
  | inr form ↦ either_fits kinds tree (first_of_both _ _ form) (second_of_both (not (length kinds == 0)) _ form)
]

-- ---- typed lists

leaf_fits : (sort : Sort) (name : TypedName) (tree : Tree) → is_sorted (leaf_test sort) name.place name.name tree ≡ true → Fits (leaf_role sort) tree
leaf_fits Names name tree is = fits_name tree (sorted_there is_name name.place name.name tree is)
leaf_fits Variables name tree is = fits_variable tree (sorted_there is_variable name.place name.name tree is)

-- the type that the next `-` gives fits, if some leaf waits for it
abbrev TypeWaits : Sort → Bool → List Tree → Type 0
TypeWaits sort untyped trees = untyped ≡ true → (type : Tree) → next_type trees ≡ Some type → Fits (type_role sort) type

module _ (sort : Sort) where
  last_fits : (untyped : Bool) (names : List TypedName) (t : Tree) → are_read_from sort names (typed_leaves untyped (t ∷ [])) ≡ true → AllFit (typed (leaf_role sort) (type_role sort) untyped (t ∷ []))
  last_fits untyped [] t is = absurd (cc)
  last_fits untyped (n ∷ ns) t is = (leaf_fits sort n t (first_of_both _ _ (first_of_both _ _ is)), tt)

  pub typed_fit : (untyped : Bool) (names : List TypedName) (trees : List Tree) → TypeWaits sort untyped trees → are_read_from sort names (typed_leaves untyped trees) ≡ true →
      AllFit (typed (leaf_role sort) (type_role sort) untyped trees)
  typed_fit untyped names [] waits is = tt
  typed_fit untyped names (t ∷ []) waits is = last_fits untyped names t is
  typed_fit untyped names (t ∷ u ∷ us) waits is =
      step untyped (is_dash t) refl waits (λ ns w h. typed_fit false ns us w h) (λ b ns w h. typed_fit b ns (u ∷ us) w h) is where
        -- the leaf and its type
        at_leaf : (b dash : Bool) → is_dash t ≡ dash → ((b : Bool) (ns : List TypedName) → TypeWaits sort b (u ∷ us) → are_read_from sort ns (typed_leaves b (u ∷ us)) ≡ true → AllFit (typed (leaf_role sort) (type_role sort) b (u ∷ us))) →
            (ns : List TypedName) → are_read_from sort ns (record { leaf = t; type = next_type (u ∷ us) } ∷ typed_leaves (not dash) (u ∷ us)) ≡ true →
            AllFit (part (leaf_role sort) t ∷ typed (leaf_role sort) (type_role sort) (not dash) (u ∷ us))
        at_leaf b dash same next [] h = absurd (cc)
        at_leaf b dash same next (n ∷ ns) h =
            let here = first_of_both _ _ h in
            let leaf = first_of_both _ _ here in
            let typed_here = second_of_both (is_sorted (leaf_test sort) n.place n.name t) _ here in (
              leaf_fits sort n t leaf,
              next (not dash) ns (λ _ type is_next. type_fits sort n.kinds type (subst (λ (w : Option Tree). have_type (type_test sort) n.place n.kinds w ≡ true) is_next typed_here))
                  (second_of_both (is_read_from sort n (record { leaf = t; type = next_type (u ∷ us) })) _ h),
            )

        step : (b dash : Bool) → is_dash t ≡ dash → TypeWaits sort b (t ∷ u ∷ us) →
            ((ns : List TypedName) → TypeWaits sort false us → are_read_from sort ns (typed_leaves false us) ≡ true → AllFit (typed (leaf_role sort) (type_role sort) false us)) →
            ((b : Bool) (ns : List TypedName) → TypeWaits sort b (u ∷ us) → are_read_from sort ns (typed_leaves b (u ∷ us)) ≡ true → AllFit (typed (leaf_role sort) (type_role sort) b (u ∷ us))) →
            are_read_from sort names (if b && dash then typed_leaves false us else record { leaf = t; type = next_type (u ∷ us) } ∷ typed_leaves (not dash) (u ∷ us)) ≡ true →
            AllFit (if b && dash then part (type_role sort) u ∷ typed (leaf_role sort) (type_role sort) false us else part (leaf_role sort) t ∷ typed (leaf_role sort) (type_role sort) (not dash) (u ∷ us))
        step true true same waits after next h =
            let given : next_type (t ∷ u ∷ us) ≡ Some u = ap (λ d. if d then Some u else next_type (u ∷ us)) same in
            (waits refl u given, after names (λ no. absurd (true_is_false (sym no))) h)
        step true false same waits after next h = at_leaf true false same next names h
        step false true same waits after next h = at_leaf false true same next names h
        step false false same waits after next h = at_leaf false false same next names h

  pub list_fits : (names : List TypedName) (trees : List Tree) → are_read_from sort names (typed_leaves false trees) ≡ true → FitsTyped sort trees
  list_fits names trees is = typed_fit false names trees (λ no. absurd (true_is_false (sym no))) is

-- a list of variables that is read fits
pub variables_fit : (names : List TypedName) (tree : Tree) → is_variable_list names tree ≡ true → Fits role.Variables tree
variables_fit names tree is =
    let there = variables_are tree names is in
    node_fits role.Variables tree (λ place again. again) (λ place lacks. lacks) there.0 (shape [] (Typed role.Variable role.VariableType)) there.1 refl
    (record { counted = refl; inner = list_fits Variables names there.0 there.2 })
