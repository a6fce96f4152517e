-- The values of keys, each of which is there once or not at all.
use Rattle.std.proofs.Common.{◌≡◌, true, List, [], ◌∷◌, Some, None, slice_get, refl, sym, subst}
use Rattle.fond_ast.specs.declared.names.TypedName.{TypedName}
use Rattle.fond_ast.specs.declared.syntax.Cond.{Cond, Truth}
use Rattle.fond_ast.specs.declared.syntax.Effect.{Effect, Nothing}
use Rattle.fond_tree.specs.declared.tree.Tree.{Tree}
use Rattle.fond_tree.specs.declared.role.Role.{Role}
use Rattle.fond_tree.specs.FormFaults.{Fits}
use Rattle.fond_reader.specs.Files.{AreParameters, IsPrecondition, IsKeyedEffect}
use Rattle.fond_reader.specs.Nodes.{FitsOnce}
use Rattle.fond_reader.specs.Typed.{is_variable_list}
use Rattle.fond_reader.specs.Bodies.{is_condition, is_effect}

-- if none is first, there is none
no_value : (trees : List Tree) → None ≡ slice_get trees 0 → trees ≡ []
no_value [] none = refl
no_value (t ∷ ts) none = cc

-- the first of at most one fits, and nothing follows it
module _ (role : Role) (tree : Tree) where
  pub value_fits : (trees : List Tree) → Some tree ≡ slice_get trees 0 → FitsOnce role trees → Fits role tree
  value_fits [] is fits = cc
  value_fits (t ∷ ts) is fits = let same : t ≡ tree = cc in subst (Fits role) same fits.0

  pub value_alone : (trees : List Tree) → Some tree ≡ slice_get trees 0 → FitsOnce role trees → trees ≡ tree ∷ []
  value_alone [] is fits = cc
  value_alone (t ∷ ts) is fits = let same : t ≡ tree = cc in let none : ts ≡ [] = fits.1 in cc

-- without a value there are no parameters, the precondition is the true condition, and the effect the empty one
pub no_parameters : (trees : List Tree) (names : List TypedName) → None ≡ slice_get trees 0 → names ≡ [] → AreParameters trees names
no_parameters trees names none is = let P : List Tree → Type 0 = λ ts. AreParameters ts names in subst P (sym (no_value trees none)) is

pub no_precondition : (trees : List Tree) → None ≡ slice_get trees 0 → IsPrecondition trees Truth
no_precondition trees none = let P : List Tree → Type 0 = λ ts. IsPrecondition ts Truth in subst P (sym (no_value trees none)) refl

pub no_effect : (trees : List Tree) → None ≡ slice_get trees 0 → IsKeyedEffect trees Nothing
no_effect trees none = let P : List Tree → Type 0 = λ ts. IsKeyedEffect ts Nothing in subst P (sym (no_value trees none)) refl

-- a value that is alone is read
module _ (trees : List Tree) (tree : Tree) (alone : trees ≡ tree ∷ []) where
  pub one_list : (names : List TypedName) → is_variable_list names tree ≡ true → AreParameters trees names
  one_list names read = let P : List Tree → Type 0 = λ ts. AreParameters ts names in subst P (sym alone) (read, refl)

  pub one_precondition : (pre : Cond) → is_condition pre tree ≡ true → IsPrecondition trees pre
  one_precondition pre read = let P : List Tree → Type 0 = λ ts. IsPrecondition ts pre in subst P (sym alone) (read, refl)

  pub one_effect : (effect : Effect) → is_effect effect tree ≡ true → IsKeyedEffect trees effect
  one_effect effect read = let P : List Tree → Type 0 = λ ts. IsKeyedEffect ts effect in subst P (sym alone) (read, refl)
