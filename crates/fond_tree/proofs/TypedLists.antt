-- Typed lists that fit, group by group: the leaves before a `-`, and their type.
use Rattle.std.proofs.Common.{◌≡◌, Bool, true, false, not, List, [], ◌∷◌, ◌++◌, map, refl, ap, ◌∙◌}
use Rattle.std.specs.List.{AllByRecursion}
use Rattle.fond_tree.specs.declared.tree.Tree.{Tree}
use Rattle.fond_tree.specs.declared.role.Role.{Role}
use Rattle.fond_tree.specs.Parts.{Part, part, is_dash, typed}
use Rattle.fond_tree.proofs.Fitting.{AllFit}
use Rattle.fond_tree.proofs.RoleMembers.{typed_after_type, typed_at_leaf}

-- none of these trees is a `-`
abbrev pub AreUndashed : List Tree → Type 0
AreUndashed = AllByRecursion (λ tree. is_dash tree ≡ false)

pub all_fit_split : (xs ys : List Part) → AllFit (xs ++ ys) → AllFit xs × AllFit ys
all_fit_split [] ys all = (tt, all)
all_fit_split (x ∷ xs) ys all = let rest = all_fit_split xs ys all.1 in ((all.0, rest.0), rest.1)

pub all_fit_join : (xs ys : List Part) → AllFit xs → AllFit ys → AllFit (xs ++ ys)
all_fit_join [] ys all more = more
all_fit_join (x ∷ xs) ys all more = (all.0, all_fit_join xs ys all.1 more)

module _ (leaf type : Role) where
  -- one more leaf
  pub typed_leaf : (untyped : Bool) (tree : Tree) (after : List Tree) → is_dash tree ≡ false → typed leaf type untyped (tree ∷ after) ≡ part leaf tree ∷ typed leaf type true after
  typed_leaf untyped tree after plain = typed_at_leaf leaf type untyped tree after plain ∙ ap (λ dash. part leaf tree ∷ typed leaf type (not dash) after) plain

  -- leaves, and what follows them
  pub typed_leaves_then : (untyped : Bool) (leaves : List Tree) (first : Tree) (after : List Tree) → AreUndashed (first ∷ leaves) →
      typed leaf type untyped (first ∷ (leaves ++ after)) ≡ map (part leaf) (first ∷ leaves) ++ typed leaf type true after
  typed_leaves_then untyped [] first after plain = typed_leaf untyped first after plain.0
  typed_leaves_then untyped (next ∷ leaves) first after plain =
      typed_leaf untyped first (next ∷ (leaves ++ after)) plain.0 ∙ ap (λ ps. part leaf first ∷ ps) (typed_leaves_then true leaves next after plain.1)

  -- a `-` after leaves, and its type
  pub typed_dash : (dash kind : Tree) (after : List Tree) → is_dash dash ≡ true → typed leaf type true (dash ∷ kind ∷ after) ≡ part type kind ∷ typed leaf type false after
  typed_dash dash kind after is = rw is refl

  -- a `-` that no leaf without a type precedes is a leaf
  pub typed_first : (tree : Tree) (after : List Tree) → typed leaf type false (tree ∷ after) ≡ part leaf tree ∷ typed leaf type (not (is_dash tree)) after
  typed_first tree after = typed_after_type leaf type false tree after refl
