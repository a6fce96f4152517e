-- Stores of distinct states with numbers.
use Rattle.std.specs.Prelude.{◌≡◌, ◌⊎◌, ℕ, List, [], ◌∷◌, ◌++◌, Bool, Some, length, slice_get, Contains}

-- a state is in the new store under this number: the store is as it was if it had the state, and otherwise has it as
-- one more at the end
pub record Adds (old : List (List Bool)) (state : List Bool) (number : ℕ) (new : List (List Bool)) : Type 0 where
  pub numbered : slice_get new number ≡ Some state
  pub kept_or_last : (Contains old state × (new ≡ old)) ⊎ ((¬ Contains old state) × (number ≡ length old) × (new ≡ old ++ state ∷ []))
