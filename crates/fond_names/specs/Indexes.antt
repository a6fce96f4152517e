-- Indexes from names to positions.
use Rattle.std.specs.Prelude.{◌≡◌, ◌||◌, ℕ, Bool, List, is_some, position}
use Rattle.std.specs.Str.{bytes_eq}
use Rattle.fond_store.specs.Texts.{number_beside}

-- an index has the position of the first item of each name
abbrev pub IsIndex : {A : Type 0} → (A → List ℕ) → List (List ℕ × ℕ) → List A → Type 0
IsIndex name index items = (wanted : List ℕ) → number_beside index wanted ≡ position (λ item. bytes_eq (name item) wanted) items

-- an index has the names that pass a test, whatever their numbers
abbrev pub HasNames : (List ℕ → Bool) → List (List ℕ × ℕ) → Type 0
HasNames test index = (name : List ℕ) → is_some (number_beside index name) ≡ test name

-- an index has the names that another one has, and those that pass a test
abbrev pub GainsNames : (List ℕ → Bool) → List (List ℕ × ℕ) → List (List ℕ × ℕ) → Type 0
GainsNames test before after = (name : List ℕ) → is_some (number_beside after name) ≡ (is_some (number_beside before name) || test name)
