-- Cubes that a cube contradicts by one literal alone.
use Rattle.std.specs.Prelude.{◌≡◌, ◌<◌, ◌≤◌, ◌-◌, ◌^◌, ℕ, List, Bool, true, Option, length, slice_index_or}
use Rattle.fond_state.specs.Cubes.{Contradicts, without_literal}
use Rattle.fond_matrix.specs.Rows.{clashes}
use Rattle.fond_matrix.specs.Below.{TwoBelow}

-- a cube contradicts another one, and does not without its literal of this atom
abbrev pub IsRival : List (Option Bool) → ℕ → List (Option Bool) → Type 0
IsRival cube atom other = Contradicts cube other × (¬ Contradicts (without_literal cube atom) other)

-- of the literals of a cube, the one of this atom alone contradicts the cube with this number
abbrev pub IsSole : List (List ℕ) → List (Option Bool) → ℕ → ℕ → Type 0
IsSole rows cube atom number = (clashes rows cube number atom ≡ true) × (¬ TwoBelow (clashes rows cube number) (length cube))

-- what is noted for an atom: the number, below a bound, of a cube that a cube contradicts by its literal of this atom alone; or
-- 2^32 - 1, if there is no such number
abbrev pub IsNoted : List (List ℕ) → List (Option Bool) → ℕ → ℕ → ℕ → Type 0
IsNoted rows cube bound atom rival = (rival < 2 ^ 32 - 1 → (rival < bound) × IsSole rows cube atom rival) × (rival ≡ 2 ^ 32 - 1 → (k : ℕ) → k < bound → ¬ IsSole rows cube atom k) × (rival ≤ 2 ^ 32 - 1)

-- the number that is noted for an atom
abbrev pub rival_at : List ℕ → ℕ → ℕ
rival_at rivals atom = slice_index_or rivals atom 0
