-- The matrix of cubes: for each literal a row of words, with a bit for each cube that has it.
use Rattle.std.specs.Prelude.{◌≡◌, ◌*◌, ◌<◌, ◌≤◌, ℕ, suc, List, [], Bool, true, false, not, Option, Some, None, length, slice_index_or}
use Rattle.fond_state.specs.Cubes.{literal_at}
use Rattle.fond_state.specs.Words.{truth_in}
use Rattle.fond_matrix.specs.Below.{SomeBelow}

-- the place of a literal's row
abbrev pub row_number : Bool → ℕ → ℕ
row_number true atom = suc (2 * atom)
row_number false atom = 2 * atom

-- the row of a literal; past the last one, an empty row
abbrev pub row_at : List (List ℕ) → Bool → ℕ → List ℕ
row_at rows sign atom = slice_index_or rows (row_number sign atom) []

-- whether the cube with this number has a literal
abbrev pub has : List (List ℕ) → Bool → ℕ → ℕ → Bool
has rows sign atom number = truth_in (row_at rows sign atom) number

-- whether the cube with this number has the opposite of a literal of this atom, if one is given
abbrev pub opposes : List (List ℕ) → ℕ → Option Bool → ℕ → Bool
opposes rows atom None number = false
opposes rows atom (Some sign) number = has rows (not sign) atom number

-- whether the cube with this number has the opposite of the literal that a cube has of this atom
abbrev pub clashes : List (List ℕ) → List (Option Bool) → ℕ → ℕ → Bool
clashes rows cube number atom = opposes rows atom (literal_at cube atom) number

-- the cube with this number has the opposite of a literal that a cube has of one of the first so many atoms
abbrev pub IsOpposed : List (List ℕ) → List (Option Bool) → ℕ → ℕ → Type 0
IsOpposed rows cube count number = SomeBelow (clashes rows cube number) count

-- a literal of a cube is the first one from an atom on
pub record IsNextLiteral (cube : List (Option Bool)) (from atom : ℕ) (sign : Bool) : Type 0 where
  pub after : from ≤ atom
  pub within : atom < length cube
  pub is : literal_at cube atom ≡ Some sign
  pub none : (other : ℕ) → from ≤ other → other < atom → literal_at cube other ≡ None
