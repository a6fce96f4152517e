-- Layers to which cubes are added.
use Rattle.std.specs.Prelude.{◌≡◌, ◌≢◌, ℕ, ◌+◌, ◌<◌, ◌≤◌, List, [], ◌∷◌, ◌++◌, length, max}
use Rattle.fond_task.specs.Layers.{CubeView}
use Rattle.fond_explicit.specs.Spaces.{layer_at}

-- layers have at least one of this number, and no other layers than before are not empty
pub record IsLengthened (old new : List (List CubeView)) (number : ℕ) : Type 0 where
  pub there : number < length new
  pub long : length new ≤ max (length old) (number + 1)
  pub same : (other : ℕ) → layer_at new other ≡ layer_at old other

-- a cube was put at the end of the layer of a number
pub record IsPut (old new : List (List CubeView)) (number : ℕ) (cube : CubeView) : Type 0 where
  pub long : length new ≤ max (length old) (number + 1)
  pub here : layer_at new number ≡ layer_at old number ++ cube ∷ []
  pub others : (other : ℕ) → other ≢ number → layer_at new other ≡ layer_at old other
