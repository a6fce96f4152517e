-- Cubes of a layer that are appended to other layers.
use Rattle.std.specs.Prelude.{◌≡◌, ◌⊎◌, ◌≤◌, ℕ, List, [], ◌∷◌, ◌++◌, Some, length, slice_get, Contains}
use Rattle.fond_task.specs.declared.task.Task.{Task}
use Rattle.fond_task.specs.Layers.{AreSureLayers, CubeView}
use Rattle.fond_layers.specs.Leads.{LiesInSome}
use Rattle.fond_layers.specs.Over.{AreOver}

-- fresh cubes are those of a layer that lie in no cube of the layers, in a list that is no longer than the layer
pub record AreFresh (layers : List (List CubeView)) (layer fresh : List CubeView) : Type 0 where
  pub few : length fresh ≤ length layer
  pub part : (cube : CubeView) → Contains fresh cube → Contains layer cube
  pub apart : (cube : CubeView) → Contains fresh cube → ¬ LiesInSome cube layers
  pub rest : (cube : CubeView) → Contains layer cube → Contains fresh cube ⊎ LiesInSome cube layers

-- the fresh cubes of a layer were appended to the layers, as one more layer, unless there are none
pub record IsAppended (old : List (List CubeView)) (layer : List CubeView) (new : List (List CubeView)) : Type 0 where
  pub fresh : List CubeView
  pub are : AreFresh old layer fresh
  pub appended : ((fresh ≡ []) × (new ≡ old)) ⊎ ((¬ fresh ≡ []) × (new ≡ old ++ fresh ∷ []))

-- old layers have grown to new ones that cover further layers: the new ones are over the task's atoms and sure, the old ones keep
-- their numbers, and each cube of the further layers lies in some cube of the new ones
pub record HaveGrown (task : Task) (old further new : List (List CubeView)) : Type 0 where
  pub over : AreOver (length task.atoms) new
  pub sure : AreSureLayers task new
  pub kept : (number : ℕ) (layer : List CubeView) → slice_get old number ≡ Some layer → slice_get new number ≡ Some layer
  pub has : (layer : List CubeView) → Contains further layer → (cube : CubeView) → Contains layer cube → LiesInSome cube new
