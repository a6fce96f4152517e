-- The numbers that a query visits before they are sorted further.
use Rattle.std.specs.Prelude.{ℕ, List, [], ◌∷◌, Bool, Some}
use Rattle.std.specs.List.{flat_map}
use Rattle.fond_match.specs.Visits.{entered}
use Rattle.fond_match.specs.declared.part.Entry.{Entry}
use Rattle.fond_match.specs.declared.part.Run.{Run}

-- the number of an entry, if the query has its literal
abbrev pub first_visits : (ℕ → Bool → Bool) → Entry → List ℕ
first_visits has entry = entered has (Some entry.literal) (entry.number ∷ [])

-- the numbers of the entries whose literals the query has
abbrev pub picked : (ℕ → Bool → Bool) → List Entry → List ℕ
picked has entries = flat_map (first_visits has) entries

-- the numbers of the runs whose literals the query has
abbrev pub run_visits : (ℕ → Bool → Bool) → List Run → List ℕ
run_visits has runs = flat_map (λ run. entered has (Some run.literal) run.numbers.items) runs
