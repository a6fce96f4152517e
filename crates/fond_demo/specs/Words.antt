-- The words that a seed gives.
use Rattle.std.specs.Prelude.{ℕ, zero, suc, List, [], ◌∷◌}
use Rattle.rand_core.specs.Pcg32Seed.{pcg32_seed}
use Rattle.rand_pcg.specs.Lcg.{Lcg}
use Rattle.rand_pcg.specs.Pcg.{pcg32, pcg32_of_seed}

-- the next words of a generator, this many
abbrev pub next_words : ℕ → Lcg → List ℕ
next_words zero generator = []
next_words (suc count) generator = (pcg32 generator).0 ∷ next_words count (pcg32 generator).1

-- the first words of the generator that a number seeds, this many
abbrev pub drawn_words : ℕ → ℕ → List ℕ
drawn_words seed count = next_words count (pcg32_of_seed (pcg32_seed 16 seed))
