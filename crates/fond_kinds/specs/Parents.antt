-- Numbers with parents, and what is reached by following them. Parents may form cycles.
use Rattle.std.specs.Prelude.{◌≡◌, ℕ, nat_lt, Bool, true, List, Option, Some, None, length, slice_index_or}
use Rattle.std.specs.List.{list_all}
use Rattle.std.specs.Option.{option_map_or}

-- the parent of a number, if it has one
abbrev pub parent_of : List (Option ℕ) → ℕ → Option ℕ
parent_of parents number = slice_index_or parents number None

-- one number is below another: it is the other, or its parent is below the other
pub data IsBelow (parents : List (Option ℕ)) : ℕ → ℕ → Type 0 where
  here : (number : ℕ) → IsBelow parents number number
  up : (number parent above : ℕ) → parent_of parents number ≡ Some parent → IsBelow parents parent above → IsBelow parents number above

-- whether each parent is one of the numbers
abbrev pub are_within : List (Option ℕ) → Bool
are_within parents = list_all (λ parent. option_map_or (λ number. nat_lt number (length parents)) parent true) parents
