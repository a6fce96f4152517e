-- The cubes of a matrix of bits.
use Rattle.std.specs.Prelude.{◌≡◌, ℕ, zero, suc, List, [], ◌∷◌, Bool, true, false, Option, Some, None, slice_index_or}
use Rattle.fond_state.specs.Cubes.{literal_at}
use Rattle.fond_match.specs.Lies.{is_sign}
use Rattle.fond_matrix.specs.Rows.{has}

-- the cube with this number; past the last one, a cube without literals
abbrev pub cube_at : List (List (Option Bool)) → ℕ → List (Option Bool)
cube_at cubes number = slice_index_or cubes number []

-- rows are the matrix of cubes: the bit of a literal and a number is set if and only if the cube with that number has the literal
abbrev pub IsMatrixOf : List (List (Option Bool)) → List (List ℕ) → Type 0
IsMatrixOf cubes rows = (sign : Bool) (atom number : ℕ) → has rows sign atom number ≡ is_sign (literal_at (cube_at cubes number) atom) sign

-- the literal of an atom, by whether its positive one is set and whether its negative one is; if both are, the positive one
abbrev pub literal_by : Bool → Bool → Option Bool
literal_by true minus = Some true
literal_by false true = Some false
literal_by false false = None

-- the cube with this number, as the rows have it, over so many atoms from this one on
unfoldable pub literals_of : List (List ℕ) → ℕ → ℕ → ℕ → List (Option Bool)
literals_of rows number atom zero = []
literals_of rows number atom (suc count) = literal_by (has rows true atom number) (has rows false atom number) ∷ literals_of rows number (suc atom) count

-- the cubes that the rows have with the numbers from this one on, one for each number of atoms in a list
unfoldable pub cubes_of : List (List ℕ) → ℕ → List ℕ → List (List (Option Bool))
cubes_of rows number [] = []
cubes_of rows number (count ∷ counts) = literals_of rows number 0 count ∷ cubes_of rows (suc number) counts
