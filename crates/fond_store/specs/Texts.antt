-- Indexes: lists and texts with numbers, in any order. Only the number that is found beside a list or a text counts.
use Rattle.std.specs.Prelude.{◌≡◌, ℕ, Bool, List, [], ◌∷◌, Option, Some, None, if◌then◌else◌, nat_eq}
use Rattle.std.specs.Option.{option_or}
use Rattle.std.specs.Cmp.Lexicographic.{pointwise}

-- for an equivalence that tests whether two elements are the same
module _ {X : Type 0} (same : X → X → Bool) where
  -- the number beside the first list that is the same as this one, element by element, if there is one
  abbrev pub number_by : List (List X × ℕ) → List X → Option ℕ
  number_by [] list = None
  number_by (item ∷ items) list = if pointwise same item.0 list then Some item.1 else number_by items list

  -- a list is inserted with a number: the lists that are the same as it get this number if they had none, and nothing else changes
  abbrev pub Inserts : List (List X × ℕ) → List X → ℕ → List (List X × ℕ) → Type 0
  Inserts old list number new = (other : List X) → number_by new other ≡ option_or (number_by old other) (if pointwise same list other then Some number else None)

-- the number beside the first occurrence of a text in a list of texts with numbers, if the text is there
abbrev pub number_beside : List (List ℕ × ℕ) → List ℕ → Option ℕ
number_beside = number_by nat_eq

-- a text is inserted with a number: it gets this number if it had none, and nothing else changes
abbrev pub InsertsText : List (List ℕ × ℕ) → List ℕ → ℕ → List (List ℕ × ℕ) → Type 0
InsertsText = Inserts nat_eq
