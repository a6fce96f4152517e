-- States and cubes. A state is the list of the truth values of the atoms; a cube is the list of the signs of its
-- literals, atom by atom, where an atom without a literal has none.
use Rattle.std.specs.Prelude.{◌≡◌, ℕ, List, map, Bool, true, false, not, Option, Some, None, slice_index_or, slice_set}
use Rattle.std.specs.List.{list_all, enumerate_from}

-- the truth value of an atom in a state
abbrev pub truth_at : List Bool → ℕ → Bool
truth_at state atom = slice_index_or state atom false

-- the sign of an atom's literal in a cube, if the cube has one
abbrev pub literal_at : List (Option Bool) → ℕ → Option Bool
literal_at cube atom = slice_index_or cube atom None

-- a state lies in a cube if each literal of the cube holds in the state
abbrev pub LiesIn : List Bool → List (Option Bool) → Type 0
LiesIn state cube = (atom : ℕ) (sign : Bool) → literal_at cube atom ≡ Some sign → truth_at state atom ≡ sign

-- a cube lies in another one if it has each literal of the other
abbrev pub CubeLiesIn : List (Option Bool) → List (Option Bool) → Type 0
CubeLiesIn cube other = (atom : ℕ) (sign : Bool) → literal_at other atom ≡ Some sign → literal_at cube atom ≡ Some sign

-- two cubes contradict each other if one has a literal of which the other has the opposite
abbrev pub Contradicts : List (Option Bool) → List (Option Bool) → Type 0
Contradicts cube other = (atom : ℕ) × (sign : Bool) × (literal_at cube atom ≡ Some sign) × (literal_at other atom ≡ Some (not sign))

-- the full cube of a state, which has a literal of each atom
abbrev pub full_cube : List Bool → List (Option Bool)
full_cube state = map (λ value. Some value) state

-- whether an atom with this truth value has the sign of a literal, if there is a literal
abbrev pub agrees : Bool → Option Bool → Bool
agrees value None = true
agrees value (Some true) = value
agrees value (Some false) = not value

-- whether a state lies in a cube, as a test
abbrev pub lies_in : List Bool → List (Option Bool) → Bool
lies_in state cube = list_all (λ item. agrees (truth_at state item.0) item.1) (enumerate_from 0 cube)

-- a cube without any literal of this atom
abbrev pub without_literal : List (Option Bool) → ℕ → List (Option Bool)
without_literal cube atom = slice_set cube atom None
