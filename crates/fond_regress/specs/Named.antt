-- Cubes of layers, by their numbers.
use Rattle.std.specs.Prelude.{◌≡◌, ℕ, List, Some, slice_get}
use Rattle.fond_task.specs.Layers.{CubeView}

-- there is a layer of this number, and in it a cube of this number
pub record HasCube (layers : List (List CubeView)) (layer cube : ℕ) : Type 0 where
  pub cubes : List CubeView
  pub has_layer : slice_get layers layer ≡ Some cubes
  pub target : CubeView
  pub has_cube : slice_get cubes cube ≡ Some target
