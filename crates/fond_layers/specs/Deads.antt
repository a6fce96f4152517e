-- The first cube of some layers that has a state.
use Rattle.std.specs.Prelude.{◌≡◌, ℕ, List, Bool, Some, take, slice_get, Contains}
use Rattle.fond_state.specs.Cubes.{LiesIn}
use Rattle.fond_task.specs.Layers.{CubeView}
use Rattle.fond_task.specs.Certificates.{LiesInLayers}

-- the cube of this number is the first of a layer in which the state lies
pub record IsFirstCube (state : List Bool) (layer : List CubeView) (number : ℕ) : Type 0 where
  pub cube : CubeView
  pub has_cube : slice_get layer number ≡ Some cube
  pub lies : LiesIn state cube
  pub first : (other : CubeView) → Contains (take number layer) other → ¬ LiesIn state other

-- the layer of this number is the first with a cube in which the state lies, and the cube is the first of these
pub record IsFirstDead (state : List Bool) (layers : List (List CubeView)) (number cube : ℕ) : Type 0 where
  pub layer : List CubeView
  pub has_layer : slice_get layers number ≡ Some layer
  pub one : IsFirstCube state layer cube
  pub first : ¬ LiesInLayers state (take number layers)
