-- What is wrong with a layer that is not sure above earlier layers.
use Rattle.std.specs.Prelude.{◌≡◌, ℕ, List, Some, take, slice_get, Contains}
use Rattle.fond_task.specs.declared.form.Kleene.TheVariants.{No}
use Rattle.fond_task.specs.declared.task.Act.{Act}
use Rattle.fond_task.specs.declared.task.Task.{Task}
use Rattle.fond_task.specs.Values.{value}
use Rattle.fond_task.specs.Layers.{CubeView, Forces, IsSureCube, IsSureLayer}
use Rattle.fond_layers.specs.declared.fault.Spot.{Spot}
use Rattle.fond_layers.specs.declared.fault.Spot.TheVariants.{Goal, NotSure}
use Rattle.fond_layers.specs.declared.fault.LayerFault.{LayerFault}
use Rattle.fond_layers.specs.declared.fault.LayerFault.TheVariants.{Goal as HasGoal, NotSure as IsNotSure, NoMemory}

-- an action escapes from a cube if its precondition is not No on the cube, and it leads neither into the layer nor into an earlier
-- one
abbrev pub Escapes : List (List CubeView) → List CubeView → CubeView → Act → Type 0
Escapes earlier layer cube act = (¬ value cube act.pre ≡ No) × (¬ Forces earlier layer cube act)

-- the action of this number is the first that escapes from a cube
pub record IsFirstEscape (acts : List Act) (earlier : List (List CubeView)) (layer : List CubeView) (cube : CubeView) (number : ℕ) : Type 0 where
  pub act : Act
  pub has_act : slice_get acts number ≡ Some act
  pub escapes : Escapes earlier layer cube act
  pub first : (other : Act) → Contains (take number acts) other → ¬ Escapes earlier layer cube other

-- what is wrong with a cube: the goal is not No on it; or it is No, and the action of this number is the first that escapes
abbrev pub IsWrong : Task → List (List CubeView) → List CubeView → CubeView → Spot → Type 0
IsWrong task earlier layer cube (Goal number) = ¬ value cube task.goal ≡ No
IsWrong task earlier layer cube (NotSure number act) = (value cube task.goal ≡ No) × IsFirstEscape task.acts earlier layer cube act

-- the number of the cube of a spot
abbrev pub cube_number : Spot → ℕ
cube_number (Goal number) = number
cube_number (NotSure number act) = number

-- a spot is what is wrong with the first of these cubes that is not sure as a cube of the layer; they need not be those of the layer
pub record IsSpotInto (task : Task) (earlier : List (List CubeView)) (layer cubes : List CubeView) (spot : Spot) : Type 0 where
  pub cube : CubeView
  pub has_cube : slice_get cubes (cube_number spot) ≡ Some cube
  pub wrong : IsWrong task earlier layer cube spot
  pub first : (other : CubeView) → Contains (take (cube_number spot) cubes) other → IsSureCube task earlier layer other

-- a spot is what is wrong with a layer: with the first of its cubes that is not sure
abbrev pub IsSpot : Task → List (List CubeView) → List CubeView → Spot → Type 0
IsSpot task earlier layer spot = IsSpotInto task earlier layer layer spot

-- a spot as a fault of its layer
abbrev pub fault_of : Spot → LayerFault
fault_of (Goal number) = HasGoal number
fault_of (NotSure number act) = IsNotSure number act

-- why a layer is not appended: its spot, or memory ran out although it is sure
abbrev pub IsLayerFault : Task → List (List CubeView) → List CubeView → LayerFault → Type 0
IsLayerFault task earlier layer (HasGoal number) = IsSpot task earlier layer (Goal number)
IsLayerFault task earlier layer (IsNotSure number act) = IsSpot task earlier layer (NotSure number act)
IsLayerFault task earlier layer NoMemory = IsSureLayer task earlier layer
