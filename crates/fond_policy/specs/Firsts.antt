-- The first conditions of a list.
use Rattle.std.specs.Prelude.{◌≡◌, ◌<◌, ℕ, List, Some, length, slice_get}
use Rattle.fond_task.specs.Layers.{CubeView}
use Rattle.fond_policy.specs.Items.{First}

-- cubes are the conditions of a list's first entries, in order; the list may be longer
abbrev pub AreFirstConditions : List CubeView → List First → Type 0
AreFirstConditions cubes firsts = (number : ℕ) → number < length cubes → (first : First) × (slice_get firsts number ≡ Some first) × (slice_get cubes number ≡ Some first.cond)
