-- Cubes that lie in one of some layers.
use Rattle.std.specs.Prelude.{List, Contains}
use Rattle.fond_task.specs.Layers.{CubeView, LiesInLayer}

-- a cube lies in one cube of one of the layers
abbrev pub LiesInSome : CubeView → List (List CubeView) → Type 0
LiesInSome cube layers = (layer : List CubeView) × Contains layers layer × LiesInLayer cube layer
