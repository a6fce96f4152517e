-- The numbers that words write: budgets, numbers of states and of steps, sizes and seeds.
use Rattle.std.specs.Prelude.{◌≡◌, ◌≤◌, ◌<◌, ◌^◌, ℕ, List}
use Rattle.std.specs.Fmt.{decimal}

-- a word writes a number from 1 to this bound in decimal digits
abbrev pub WritesUpTo : ℕ → List ℕ → ℕ → Type 0
WritesUpTo most word number = (1 ≤ number) × (number ≤ most) × (word ≡ decimal number)

-- a word is a number from 1 to 1,000,000: a budget, which is a number of reachable states up to which a task is decided; a number of
-- states up to which a graph is drawn; or a number of steps
abbrev pub IsBudget : List ℕ → ℕ → Type 0
IsBudget = WritesUpTo 1000000

-- a word is a number of states up to which `explain` judges a policy
abbrev pub IsLimit : List ℕ → ℕ → Type 0
IsLimit = WritesUpTo 1000

-- a word is the size of a task of `demo`
abbrev pub IsSize : List ℕ → ℕ → Type 0
IsSize = WritesUpTo 100

-- a word is a seed: a number below 2^64 in decimal digits
abbrev pub IsSeed : List ℕ → ℕ → Type 0
IsSeed word seed = (seed < 2 ^ 64) × (word ≡ decimal seed)
