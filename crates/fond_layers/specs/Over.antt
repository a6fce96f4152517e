-- Layers over the atoms of a task.
use Rattle.std.specs.Prelude.{◌≡◌, ℕ, List, All, length}
use Rattle.fond_task.specs.Layers.{CubeView}

-- the cubes of a layer are over this many atoms
abbrev pub IsOver : ℕ → List CubeView → Type 0
IsOver atoms layer = All (λ cube. length cube ≡ atoms) layer

-- the cubes of all layers are over this many atoms
abbrev pub AreOver : ℕ → List (List CubeView) → Type 0
AreOver atoms layers = All (IsOver atoms) layers
