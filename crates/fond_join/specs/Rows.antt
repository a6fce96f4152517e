-- The initial atoms by an object at one position, with the objects at another position.
use Rattle.std.specs.Prelude.{◌≡◌, ◌<◌, ℕ, true, List, [], ◌∷◌, Option, Some, None, length, slice_get, slice_index_or}
use Rattle.fond_text.specs.declared.atom.Atom.{Atom}
use Rattle.fond_ast.specs.Ranges.{is_among}
use Rattle.fond_store.specs.Texts.{number_beside}
use Rattle.fond_join.specs.declared.rows.TheConstants.{MOST_ROWED}

-- the list of a number among some lists, which is empty if there is no number
abbrev pub list_at : List (List ℕ) → Option ℕ → List ℕ
list_at lists None = []
list_at lists (Some number) = slice_index_or lists number []

-- the row of a key: the list of the key's number
abbrev pub row_at : List (List ℕ × ℕ) → List (List ℕ) → List ℕ → List ℕ
row_at numbers lists key = list_at lists (number_beside numbers key)

-- each number of a key is that of a list
abbrev pub AreNumbered : List (List ℕ × ℕ) → List (List ℕ) → Type 0
AreNumbered numbers lists = (key : List ℕ) (number : ℕ) → number_beside numbers key ≡ Some number → number < length lists

-- the objects of each row are among those of the row of the same key later on
abbrev pub IsGrown : List (List ℕ × ℕ) → List (List ℕ) → List (List ℕ × ℕ) → List (List ℕ) → Type 0
IsGrown numbers lists others longer = (key : List ℕ) (object : ℕ) → is_among (row_at numbers lists key) object ≡ true → is_among (row_at others longer key) object ≡ true

-- the key of the objects at a position of the atoms of a predicate that have this object at another position
abbrev pub key_of : ℕ → ℕ → ℕ → ℕ → List ℕ
key_of predicate position object other = predicate ∷ position ∷ object ∷ other ∷ []

-- the row beside a position of an atom has the object at another position
abbrev pub IsRowedAt : List (List ℕ × ℕ) → List (List ℕ) → Atom → ℕ → ℕ → Type 0
IsRowedAt numbers lists atom position other =
    is_among (row_at numbers lists (key_of atom.predicate position (slice_index_or atom.objects position 0) other)) (slice_index_or atom.objects other 0) ≡ true

-- the rows beside each of the first positions of an atom have its objects at these
abbrev pub IsRowed : List (List ℕ × ℕ) → List (List ℕ) → Atom → Type 0
IsRowed numbers lists atom =
    (position other : ℕ) → position < MOST_ROWED → position < length atom.objects → other < MOST_ROWED → other < length atom.objects → IsRowedAt numbers lists atom position other

-- the rows have the objects of some atoms
abbrev pub AreRowed : List (List ℕ × ℕ) → List (List ℕ) → List Atom → Type 0
AreRowed numbers lists atoms = (k : ℕ) (atom : Atom) → slice_get atoms k ≡ Some atom → IsRowed numbers lists atom
