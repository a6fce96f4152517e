-- Numbers named in the order of their first use.
use Rattle.std.specs.Prelude.{◌≡◌, ◌⊎◌, ◌<◌, ◌+◌, ℕ, List, [], ◌∷◌, ◌++◌, All, Some, length, slice_get, slice_index_or}
use Rattle.fond_text.specs.Lists.{AreDistinct}
use Rattle.fond_games.specs.Findings.{Tell}
use Rattle.fond_games.specs.Renaming.{FirstUsed}

-- the entry of a number in a table: one more than its name, and 0 if it has none
abbrev pub entry : List ℕ → ℕ → ℕ
entry table number = slice_index_or table number 0

-- a table has the names of the numbers that are used, which are their places
pub record IsNaming (table used : List ℕ) : Type 0 where
  pub names : (place number : ℕ) → slice_get used place ≡ Some number → entry table number ≡ place + 1
  pub places : (place number : ℕ) → entry table number ≡ place + 1 → slice_get used place ≡ Some number

-- a number has this name: it was used before, or its name is the next one
pub record IsNamed (old : List ℕ) (number name : ℕ) (new : List ℕ) : Type 0 where
  pub placed : slice_get new name ≡ Some number
  pub old_or_next : ((name < length old) × (new ≡ old)) ⊎ ((name ≡ length old) × (new ≡ old ++ number ∷ []))

-- numbers have these names, and some of them were first used here
pub record AreNamed (old numbers names new : List ℕ) : Type 0 where
  pub more : List ℕ
  pub grown : new ≡ old ++ more
  pub told : Tell new names numbers
  pub first : FirstUsed (length old) names (length new)

-- the numbers of a stem and a cycle have names in the order of their first use
pub record AreRenamed (count : ℕ) (stem cycle used stem_names cycle_names : List ℕ) : Type 0 where
  pub once : AreDistinct used
  pub below : All (λ number. number < count) used
  pub stem_told : Tell used stem_names stem
  pub cycle_told : Tell used cycle_names cycle
  pub first : FirstUsed 0 (stem_names ++ cycle_names) (length used)
