-- Indexes of cubes.
use Rattle.std.specs.Prelude.{◌≡◌, ◌≤◌, ℕ, List, Option, Bool, length, take}
use Rattle.std.specs.List.{range_with_len}
use Rattle.fond_match.specs.declared.matcher.Matcher.{Matcher}
use Rattle.fond_match.specs.Visits.{Keeps, visits}

-- an index has exactly these cubes: each query visits the numbers of those of which it has each literal, and no numbers
-- but those of the cubes
abbrev pub Indexes : List (List (Option Bool)) → Matcher → Type 0
Indexes cubes matcher = Keeps cubes (λ _. range_with_len 0 (length cubes)) (λ has. visits has matcher.root)

-- an index is of these cubes if it has the first of them, as many as it counts
abbrev pub IsMatcherOf : List (List (Option Bool)) → Matcher → Type 0
IsMatcherOf cubes matcher = (matcher.count ≤ length cubes) × Indexes (take matcher.count cubes) matcher

-- an index has this many cubes
abbrev pub HasAll : ℕ → Matcher → Type 0
HasAll count matcher = matcher.count ≡ count
