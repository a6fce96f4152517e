-- Counts with one more.
use Rattle.std.specs.Prelude.{ℕ, ◌≡◌, ◌+◌, ◌^◌, nat_lt, true}

-- a count with one more, which is below 2^32
abbrev pub IsOneMore : ℕ → ℕ → Type 0
IsOneMore count more = (more ≡ count + 1) × (nat_lt (count + 1) (2 ^ 32) ≡ true)
