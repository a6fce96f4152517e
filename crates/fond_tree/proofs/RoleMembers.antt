-- The parts that are left of the members of a node.
use Rattle.std.proofs.Common.{◌≡◌, ◌≤◌, ◌&&◌, Bool, true, false, not, List, [], ◌∷◌, length, if◌then◌else◌, refl, ap, arith}
use Rattle.std.proofs.Math.Bool.{and-false}
use Rattle.fond_tree.specs.declared.tree.Tree.{Tree}
use Rattle.fond_tree.specs.declared.role.Role.{Role}
use Rattle.fond_tree.specs.declared.role.Rest.{Rest}
use Rattle.fond_tree.specs.declared.walk.Pending.{Pending}
use Rattle.fond_tree.specs.Parts.{part, is_dash, typed, rest_parts, shape_parts}
use Rattle.fond_tree.specs.Walks.{after_dash, rest_left, roles_left}

module _ (leaf type : Role) (untyped : Bool) (tree : Tree) where
  -- a `-` that fits is followed by its type
  pub typed_at_dash : (after : List Tree) → untyped ≡ true → is_dash tree ≡ true → 1 ≤ length after → typed leaf type untyped (tree ∷ after) ≡ after_dash leaf type after
  typed_at_dash [] before dash some = absurd (omega arith)
  typed_at_dash (next ∷ trees) before dash some =
      let fits : (untyped && is_dash tree) ≡ true = rw before dash in
      ap (λ b. if b then part type next ∷ typed leaf type false trees else part leaf tree ∷ typed leaf type (not (is_dash tree)) (next ∷ trees)) fits

  at_leaf : (after : List Tree) → (untyped && is_dash tree) ≡ false → typed leaf type untyped (tree ∷ after) ≡ part leaf tree ∷ typed leaf type (not (is_dash tree)) after
  at_leaf [] other = refl
  at_leaf (next ∷ trees) other = ap (λ b. if b then part type next ∷ typed leaf type false trees else part leaf tree ∷ typed leaf type (not (is_dash tree)) (next ∷ trees)) other

  -- each other tree is a leaf
  pub typed_after_type : (after : List Tree) → untyped ≡ false → typed leaf type untyped (tree ∷ after) ≡ part leaf tree ∷ typed leaf type (not (is_dash tree)) after
  typed_after_type after typed_before = at_leaf after (ap (λ b. b && is_dash tree) typed_before)

  pub typed_at_leaf : (after : List Tree) → is_dash tree ≡ false → typed leaf type untyped (tree ∷ after) ≡ part leaf tree ∷ typed leaf type (not (is_dash tree)) after
  typed_at_leaf after dash = at_leaf after (rw dash (and-false untyped))

  pub typed_at_last : (after : List Tree) → length after ≡ 0 → typed leaf type untyped (tree ∷ after) ≡ part leaf tree ∷ typed leaf type (not (is_dash tree)) after
  typed_at_last [] last = refl
  typed_at_last (next ∷ trees) last = absurd (omega arith)

-- the first members are the same whatever follows them
pub roles_then_rest : (rest : Rest) (left : Pending) → ((trees : List Tree) → rest_left left trees ≡ rest_parts rest trees) →
    (roles : List Role) (trees : List Tree) → roles_left roles left trees ≡ shape_parts roles rest trees
roles_then_rest rest left same [] trees = same trees
roles_then_rest rest left same (role ∷ roles) [] = refl
roles_then_rest rest left same (role ∷ roles) (tree ∷ trees) = ap (λ parts. part role tree ∷ parts) (roles_then_rest rest left same roles trees)
