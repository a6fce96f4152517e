-- Layers and cubes that a draft may take above the layers that it has, if these are sure.
use Rattle.std.specs.Prelude.{◌≡◌, ◌<◌, ◌^◌, [], ◌∷◌, List, Bool, length}
use Rattle.fond_state.specs.Cubes.{LiesIn}
use Rattle.fond_task.specs.declared.task.Task.{Task}
use Rattle.fond_task.specs.Layers.{CubeView, IsSureLayer}
use Rattle.fond_layers.specs.Over.{IsOver}

-- a layer may come next: it has fewer than 2^32 cubes, which are over the atoms, and it is sure above the layers
pub record MayComeNext (task : Task) (layers : List (List CubeView)) (layer : List CubeView) : Type 0 where
  pub few : length layer < 2 ^ 32
  pub over : IsOver (length task.atoms) layer
  pub sure : IsSureLayer task layers layer

-- a cube around a state is dead above the layers: it is over the atoms, the state lies in it, and alone it is a layer that is
-- sure above them
pub record IsDeadAround (task : Task) (layers : List (List CubeView)) (state : List Bool) (cube : CubeView) : Type 0 where
  pub over : length cube ≡ length task.atoms
  pub lies : LiesIn state cube
  pub sure : IsSureLayer task layers (cube ∷ [])
