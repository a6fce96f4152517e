-- Numbers in the order of their first use.
use Rattle.std.specs.Prelude.{◌≡◌, ◌⊎◌, ◌<◌, ◌+◌, ℕ, List, [], ◌∷◌}

-- numbers are first used in rising order, from a count of numbers that were used before on: each was used before, or is the next one;
-- and so many are used at the end
abbrev pub FirstUsed : ℕ → List ℕ → ℕ → Type 0
FirstUsed seen [] end = end ≡ seen
FirstUsed seen (number ∷ numbers) end = ((number < seen) × FirstUsed seen numbers end) ⊎ ((number ≡ seen) × FirstUsed (seen + 1) numbers end)
