-- What follows for a tree and its parts if it fits its role, and from which facts it does.
use Rattle.std.proofs.Common.{◌≡◌, ◌⊎◌, inl, inr, ℕ, List, [], ◌∷◌, Option, Some, None, Bool, true, false, map, refl, sym, ap, subst, ◌∙◌, if◌then◌else◌}
use Rattle.std.specs.List.{AllByRecursion, AllZip}
use Rattle.fond_text.specs.declared.place.Place.{Place}
use Rattle.fond_tree.specs.declared.tree.Tree.{Tree, out-Tree}
use Rattle.fond_tree.specs.declared.tree.Tree.TheOpen.{Tree-F, Leaf, Node}
use Rattle.fond_tree.specs.Trees.{leaf_step, members_step, members_of, leaf_of, place_of}
use Rattle.fond_tree.specs.declared.role.Role.{Role}
use Rattle.fond_tree.specs.declared.role.Rest.TheVariants.{NoMore}
use Rattle.fond_tree.specs.Roles.{Shape, Members, Refused, node_expected, leaf_code}
use Rattle.fond_tree.specs.Parts.{Part, part, parts, is_counted, expected_parts, shape_parts}
use Rattle.fond_tree.specs.FormFaults.{node_code, tree_code, IsOwnFault, IsRepeated, IsIncomplete, Fits}
use Rattle.fond_tree.proofs.Among.{Among, stands_down, stands_up}

-- a part fits its role
abbrev pub IsFitting : Part → Type 0
IsFitting at = Fits at.role at.tree

-- each of some parts fits its role
abbrev pub AllFit : List Part → Type 0
AllFit = AllByRecursion IsFitting

none_among : (list : List Part) → AllFit list → (place : Place) (code : ℕ) → ¬ Among list place code
none_among [] all place code among = among
none_among (at ∷ rest) all place code (inl here) = all.0 place code here
none_among (at ∷ rest) all place code (inr later) = none_among rest all.1 place code later

all_fit : (list : List Part) → ((place : Place) (code : ℕ) → ¬ Among list place code) → AllFit list
all_fit [] none = tt
all_fit (at ∷ rest) none = (λ place code here. none place code (inl here), all_fit rest (λ place code later. none place code (inr later)))

-- an option that is not some value is none
none_left : (option : Option ℕ) → ((code : ℕ) → ¬ option ≡ Some code) → option ≡ None
none_left None never = refl
none_left (Some code) never = absurd (never code refl)

pub some_is_none : (code : ℕ) → ¬ Some code ≡ None
some_is_none code is = cc

-- a tree is a leaf, or a node
pub leaf_or_node : (tree : Tree) → ((leaf : List ℕ) × (leaf_of tree ≡ Some leaf) × (members_of tree ≡ None)) ⊎ ((members : List Tree) × (members_of tree ≡ Some members) × (leaf_of tree ≡ None))
leaf_or_node tree = from (out-Tree tree) refl where
  from : (layer : Tree-F Tree) → out-Tree tree ≡ layer → ((leaf : List ℕ) × (leaf_of tree ≡ Some leaf) × (members_of tree ≡ None)) ⊎ ((members : List Tree) × (members_of tree ≡ Some members) × (leaf_of tree ≡ None))
  from (Leaf place name) e = inl (name, ap leaf_step e, ap members_step e)
  from (Node place members) e = inr (members.items, ap members_step e, ap leaf_step e)

-- the code of a node is decided by its members
pub node_tree_code : (role : Role) (tree : Tree) (members : List Tree) → members_of tree ≡ Some members → tree_code role (leaf_of tree) (members_of tree) ≡ node_code (node_expected role members) members
node_tree_code role tree members is = elim (leaf_or_node tree) [
  | inl leaf ↦ absurd (apart leaf.2)
  | inr node ↦ ap (λ l. tree_code role l (members_of tree)) node.2 ∙ ap (tree_code role None) is
] where
  apart : ¬ members_of tree ≡ None
  apart none = let same : Some members ≡ None = sym is ∙ none in cc

parts_of : (role : Role) (tree : Tree) (members : List Tree) → members_of tree ≡ Some members → parts (part role tree) ≡ expected_parts (node_expected role members) members
parts_of role tree members is = rw is refl

no_parts : (role : Role) (tree : Tree) → members_of tree ≡ None → parts (part role tree) ≡ []
no_parts role tree is = rw is refl

-- members are those of a shape, and each part among them fits
pub record IsShaped (of : Shape) (members : List Tree) : Type 0 where
  pub counted : is_counted of.first of.rest members ≡ true
  pub inner : AllFit (shape_parts of.first of.rest members)

counted_if : (counted : Bool) → if◌then◌else◌ {A = Option ℕ} counted None (Some 7) ≡ None → counted ≡ true
counted_if true is = refl
counted_if false is = absurd (some_is_none 7 is)

module _ (role : Role) (tree : Tree) (fits : Fits role tree) where
  own : (place : Place) (code : ℕ) → ¬ IsOwnFault (part role tree) place code
  own place code fault = fits place code (stands_up role tree place code (inl fault))

  pub parts_fit : AllFit (parts (part role tree))
  parts_fit = all_fit (parts (part role tree)) (λ place code among. fits place code (stands_up role tree place code (inr among)))

  pub unrefused : tree_code role (leaf_of tree) (members_of tree) ≡ None
  unrefused = none_left _ (λ code is. own (place_of tree) code (inl (refl, is)))

  pub unrepeated : (place : Place) → ¬ IsRepeated role tree place
  unrepeated place fault = own place 9 (inr (inl (fault, refl)))

  pub complete : (place : Place) → ¬ IsIncomplete role tree place
  complete place fault = own place 10 (inr (inr (fault, refl)))

  -- the leaf that it is, if it is one, is not refused
  pub leaf_unrefused : (leaf : List ℕ) → leaf_of tree ≡ Some leaf → leaf_code role leaf ≡ None
  leaf_unrefused leaf is = sym (ap (λ l. tree_code role l (members_of tree)) is) ∙ unrefused

  pub node_unrefused : (members : List Tree) → members_of tree ≡ Some members → node_code (node_expected role members) members ≡ None
  node_unrefused members is = sym (node_tree_code role tree members is) ∙ unrefused

  -- it is a leaf if no node is expected, and a node if no leaf is
  pub leaf_there : ((members : List Tree) → node_expected role members ≡ None) → (leaf : List ℕ) × (leaf_of tree ≡ Some leaf) × (leaf_code role leaf ≡ None)
  leaf_there no_node = elim (leaf_or_node tree) [
    | inl leaf ↦ (leaf.0, leaf.1, leaf_unrefused leaf.0 leaf.1)
    | inr node ↦ absurd (some_is_none 7 (sym (ap (λ expected. node_code expected node.0) (no_node node.0)) ∙ node_unrefused node.0 node.1))
  ]

  pub node_there : ((leaf : List ℕ) → leaf_code role leaf ≡ Some 7) → (members : List Tree) × (members_of tree ≡ Some members)
  node_there no_leaf = elim (leaf_or_node tree) [
    | inl leaf ↦ absurd (some_is_none 7 (sym (no_leaf leaf.0) ∙ leaf_unrefused leaf.0 leaf.1))
    | inr node ↦ (node.0, node.1)
  ]

  -- its members are those of the shape that is expected
  pub shaped : (members : List Tree) (of : Shape) → members_of tree ≡ Some members → node_expected role members ≡ Some (Members of) → IsShaped of members
  shaped members of is expects = record {
    counted = counted_if (is_counted of.first of.rest members) (sym (ap (λ e. node_code e members) expects) ∙ node_unrefused members is);
    inner = subst AllFit (parts_of role tree members is ∙ ap (λ e. expected_parts e members) expects) parts_fit;
  }

  pub not_refused : (members : List Tree) (code : ℕ) → members_of tree ≡ Some members → ¬ node_expected role members ≡ Some (Refused code)
  not_refused members code is expects = some_is_none code (sym (ap (λ e. node_code e members) expects) ∙ node_unrefused members is)

-- ---- the way back

module _ (role : Role) (tree : Tree) (unrepeated : (place : Place) → ¬ IsRepeated role tree place) (complete : (place : Place) → ¬ IsIncomplete role tree place) where
  fits_if : tree_code role (leaf_of tree) (members_of tree) ≡ None → AllFit (parts (part role tree)) → Fits role tree
  fits_if code inner place number stands = elim (stands_down role tree place number stands) [
    | inl own ↦ unowned own
    | inr among ↦ none_among (parts (part role tree)) inner place number among
  ] where
    unowned : ¬ IsOwnFault (part role tree) place number
    unowned (inl refused) = some_is_none number (sym refused.1 ∙ code)
    unowned (inr (inl again)) = unrepeated place again.0
    unowned (inr (inr lacks)) = complete place lacks.0

  -- a leaf that is not refused fits, and a node whose members are those of the shape that is expected
  pub leaf_fits : (leaf : List ℕ) → leaf_of tree ≡ Some leaf → leaf_code role leaf ≡ None → Fits role tree
  leaf_fits leaf is code = elim (leaf_or_node tree) [
    | inl other ↦ fits_if (ap (λ l. tree_code role l (members_of tree)) is ∙ code) (subst AllFit (sym (no_parts role tree other.2)) tt)
    | inr node ↦ absurd (apart node.2)
  ] where
    apart : ¬ leaf_of tree ≡ None
    apart none = let same : Some leaf ≡ None = sym is ∙ none in cc

  pub node_fits : (members : List Tree) (of : Shape) → members_of tree ≡ Some members → node_expected role members ≡ Some (Members of) → IsShaped of members → Fits role tree
  node_fits members of is expects shape =
      fits_if (node_tree_code role tree members is ∙ ap (λ e. node_code e members) expects ∙ ap (λ b. if◌then◌else◌ {A = Option ℕ} b None (Some 7)) shape.counted)
      (subst AllFit (sym (parts_of role tree members is ∙ ap (λ e. expected_parts e members) expects)) shape.inner)

-- ---- members that fit roles one by one

pub each_fits : (role : Role) (trees : List Tree) → AllFit (map (part role) trees) → AllByRecursion (Fits role) trees
each_fits role [] all = tt
each_fits role (t ∷ ts) all = (all.0, each_fits role ts all.1)

pub all_of_each : (role : Role) (trees : List Tree) → AllByRecursion (Fits role) trees → AllFit (map (part role) trees)
all_of_each role [] each = tt
all_of_each role (t ∷ ts) each = (each.0, all_of_each role ts each.1)

pub zip_fits : (roles : List Role) (trees : List Tree) → is_counted roles NoMore trees ≡ true → AllFit (shape_parts roles NoMore trees) → AllZip Fits roles trees
zip_fits [] [] counted all = tt
zip_fits [] (t ∷ ts) counted all = absurd (cc)
zip_fits (r ∷ rs) [] counted all = absurd (cc)
zip_fits (r ∷ rs) (t ∷ ts) counted all = (all.0, zip_fits rs ts counted all.1)

pub shaped_of_zip : (roles : List Role) (trees : List Tree) → AllZip Fits roles trees → (is_counted roles NoMore trees ≡ true) × AllFit (shape_parts roles NoMore trees)
shaped_of_zip [] [] zip = (refl, tt)
shaped_of_zip [] (t ∷ ts) zip = absurd zip
shaped_of_zip (r ∷ rs) [] zip = absurd zip
shaped_of_zip (r ∷ rs) (t ∷ ts) zip = let rest = shaped_of_zip rs ts zip.1 in (rest.0, (zip.0, rest.1))
