-- Forms that fit, by their heads and members.
use Rattle.std.proofs.Common.{◌≡◌, ◌||◌, ◌&&◌, Bool, true, false, not, ℕ, List, [], ◌∷◌, Some, codes, refl, sym, ap, ◌∙◌, if◌then◌else◌}
use Rattle.std.proofs.Math.Bool.{and-false}
use Rattle.std.specs.List.{AllByRecursion, AllZip, list_any}
use Rattle.std.specs.Str.{bytes_eq}
use Rattle.std.proofs.lemmas.Slice.Eq.{bytes_eq-Decides}
use Rattle.fond_text.specs.declared.place.Place.{Place}
use Rattle.fond_tree.specs.declared.tree.Tree.{Tree}
use Rattle.fond_tree.specs.Trees.{members_of, leaf_of, is_node}
use Rattle.fond_tree.specs.declared.role.Role.{Role}
use Rattle.fond_tree.specs.declared.role.Role.TheVariants as role
use Rattle.fond_tree.specs.declared.role.Rest.TheVariants.{NoMore, Each}
use Rattle.fond_tree.specs.Words.{reserved, is_one_of, is_name, is_variable, is_keyword}
use Rattle.fond_tree.specs.Roles.{Shape, shape, Expected, Members, Refused, node_expected, form, form_of, none, atom, atom_or_refused, condition, effect, initial}
use Rattle.fond_tree.specs.FormFaults.{Fits, IsRepeated, IsIncomplete}
use Rattle.fond_tree.proofs.Fitting.{IsShaped, node_fits, all_of_each, shaped_of_zip}
use Rattle.fond_tree.proofs.FittingLeaves.{fits_head}
use Rattle.fond_tree.proofs.Heads.{HasHead, condition_else, effect_else, initial_else}

-- members after a head are of the shape that the head asks for
pub shaped_each : (of : Role) (head : Tree) (word : List ℕ) (after : List Tree) → leaf_of head ≡ Some word → AllByRecursion (Fits of) after → IsShaped (shape (role.Head ∷ []) (Each of)) (head ∷ after)
shaped_each of head word after leaf fit = record { counted = refl; inner = (fits_head head word leaf, all_of_each of after fit) }

pub shaped_fixed : (roles : List Role) (head : Tree) (word : List ℕ) (after : List Tree) → leaf_of head ≡ Some word → AllZip Fits roles after → IsShaped (shape (role.Head ∷ roles) NoMore) (head ∷ after)
shaped_fixed roles head word after leaf fit = let s = shaped_of_zip roles after fit in record { counted = s.0; inner = (fits_head head word leaf, s.1) }

module _ (of : Role) (empty : Shape) (by_head : List ℕ → List Tree → Expected) (expects : (members : List Tree) → node_expected of members ≡ Some (form_of empty by_head members))
    (once : (tree : Tree) (place : Place) → ¬ IsRepeated of tree place) (whole : (tree : Tree) (place : Place) → ¬ IsIncomplete of tree place) (tree : Tree) (word : List ℕ) (after : List Tree) (has : HasHead tree word after) where
  pub fits_by_head : (asked : Shape) → by_head word after ≡ Members asked → IsShaped asked (has.head ∷ after) → Fits of tree
  fits_by_head asked asks s =
      node_fits of tree (once tree) (whole tree) (has.head ∷ after) asked has.whole (expects (has.head ∷ after) ∙ ap (λ leaf. Some (form by_head leaf after)) has.leaf ∙ ap (λ e. Some e) asks) s

  pub fits_each : (part : Role) → by_head word after ≡ Members (shape (role.Head ∷ []) (Each part)) → AllByRecursion (Fits part) after → Fits of tree
  fits_each part asks fit = fits_by_head (shape (role.Head ∷ []) (Each part)) asks (shaped_each part has.head word after has.leaf fit)

  pub fits_fixed : (roles : List Role) → by_head word after ≡ Members (shape (role.Head ∷ roles) NoMore) → AllZip Fits roles after → Fits of tree
  fits_fixed roles asks fit = fits_by_head (shape (role.Head ∷ roles) NoMore) asks (shaped_fixed roles has.head word after has.leaf fit)

-- ---- names before terms

-- a name is no word that is none
pub name_other : (word name : List ℕ) → is_name word ≡ false → is_name name ≡ true → bytes_eq name word ≡ false
name_other word name other is = from (bytes_eq name word) refl where
  from : (same : Bool) → bytes_eq name word ≡ same → same ≡ false
  from false h = refl
  from true h = let both : true ≡ false = sym is ∙ ap is_name ((bytes_eq-Decides name word).0 h) ∙ other in both

unreserved : (marked reserved : Bool) → (marked && not reserved) ≡ true → reserved ≡ false
unreserved marked false is = refl
unreserved true true is = cc
unreserved false true is = cc

pub name_unreserved : (name : List ℕ) → is_name name ≡ true → is_one_of reserved name ≡ false
name_unreserved name is = unreserved (not (is_variable name) && not (is_keyword name)) (is_one_of reserved name) is

no_nodes : (trees : List Tree) → AllByRecursion (λ tree. is_node tree ≡ false) trees → list_any is_node trees ≡ false
no_nodes [] leaves = refl
no_nodes (t ∷ ts) leaves = ap (λ b. b || list_any is_node ts) leaves.0 ∙ no_nodes ts leaves.1

-- a name before leaves is an atom, also where operators are allowed
pub atom_allowed : (name : List ℕ) (after : List Tree) → is_name name ≡ true → AllByRecursion (λ tree. is_node tree ≡ false) after → atom_or_refused name after ≡ Members atom
atom_allowed name after is leaves =
    let nodes : (is_name name && list_any is_node after) ≡ false = ap (λ b. is_name name && b) (no_nodes after leaves) ∙ and-false (is_name name) in
    ap (λ b. if b then Refused 11 else Members atom) (ap (λ b. b || (is_name name && list_any is_node after)) (name_unreserved name is) ∙ nodes)

module _ (tree : Tree) (name : List ℕ) (after : List Tree) (has : HasHead tree name after) (is : is_name name ≡ true) (leaves : AllByRecursion (λ tree. is_node tree ≡ false) after) (s : IsShaped atom (has.head ∷ after)) where
  pub atom_fits_plain : Fits role.Atom tree
  atom_fits_plain = node_fits role.Atom tree (λ place again. again) (λ place lacks. lacks) (has.head ∷ after) atom has.whole refl s

  pub atom_fits_condition : Fits role.Condition tree
  atom_fits_condition = fits_by_head role.Condition none condition (λ _. refl) (λ t place again. again) (λ t place lacks. lacks) tree name after has atom
      (condition_else name after (record {
        conjunction = name_other (codes "and") name refl is;
        disjunction = name_other (codes "or") name refl is;
        negation = name_other (codes "not") name refl is;
        implication = name_other (codes "imply") name refl is;
        universal = name_other (codes "forall") name refl is;
        existential = name_other (codes "exists") name refl is;
        equality = name_other (codes "=") name refl is;
      }) ∙ atom_allowed name after is leaves) s

  pub atom_fits_effect : Fits role.Effect tree
  atom_fits_effect = fits_by_head role.Effect none effect (λ _. refl) (λ t place again. again) (λ t place lacks. lacks) tree name after has atom
      (effect_else name after (record {
        conjunction = name_other (codes "and") name refl is;
        negation = name_other (codes "not") name refl is;
        universal = name_other (codes "forall") name refl is;
        conditional = name_other (codes "when") name refl is;
        chosen = name_other (codes "oneof") name refl is;
      }) ∙ atom_allowed name after is leaves) s

  pub atom_fits_initial : Fits role.Initial tree
  atom_fits_initial = fits_by_head role.Initial atom initial (λ _. refl) (λ t place again. again) (λ t place lacks. lacks) tree name after has atom
      (initial_else name after (name_other (codes "not") name refl is) ∙ atom_allowed name after is leaves) s

-- ---- the empty node

pub unit_fits_condition : (tree : Tree) → members_of tree ≡ Some [] → Fits role.Condition tree
unit_fits_condition tree is = node_fits role.Condition tree (λ place again. again) (λ place lacks. lacks) [] none is refl (record { counted = refl; inner = tt })

pub unit_fits_effect : (tree : Tree) → members_of tree ≡ Some [] → Fits role.Effect tree
unit_fits_effect tree is = node_fits role.Effect tree (λ place again. again) (λ place lacks. lacks) [] none is refl (record { counted = refl; inner = tt })

-- ---- operators

module _ (tree : Tree) (word : List ℕ) (after : List Tree) (has : HasHead tree word after) where
  pub condition_each : condition word after ≡ Members (shape (role.Head ∷ []) (Each role.Condition)) → AllByRecursion (Fits role.Condition) after → Fits role.Condition tree
  condition_each = fits_each role.Condition none condition (λ _. refl) (λ t place again. again) (λ t place lacks. lacks) tree word after has role.Condition

  pub condition_fixed : (roles : List Role) → condition word after ≡ Members (shape (role.Head ∷ roles) NoMore) → AllZip Fits roles after → Fits role.Condition tree
  condition_fixed = fits_fixed role.Condition none condition (λ _. refl) (λ t place again. again) (λ t place lacks. lacks) tree word after has

  pub effect_each : effect word after ≡ Members (shape (role.Head ∷ []) (Each role.Effect)) → AllByRecursion (Fits role.Effect) after → Fits role.Effect tree
  effect_each = fits_each role.Effect none effect (λ _. refl) (λ t place again. again) (λ t place lacks. lacks) tree word after has role.Effect

  pub effect_fixed : (roles : List Role) → effect word after ≡ Members (shape (role.Head ∷ roles) NoMore) → AllZip Fits roles after → Fits role.Effect tree
  effect_fixed = fits_fixed role.Effect none effect (λ _. refl) (λ t place again. again) (λ t place lacks. lacks) tree word after has

  pub initial_fixed : (roles : List Role) → initial word after ≡ Members (shape (role.Head ∷ roles) NoMore) → AllZip Fits roles after → Fits role.Initial tree
  initial_fixed = fits_fixed role.Initial atom initial (λ _. refl) (λ t place again. again) (λ t place lacks. lacks) tree word after has
