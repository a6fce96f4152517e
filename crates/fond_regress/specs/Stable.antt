-- Stable cubes, which no action leaves, and hopeless states.
use Rattle.std.specs.Prelude.{◌≡◌, ℕ, List, Bool, Some, slice_get, length}
use Rattle.fond_state.specs.Cubes.{CubeLiesIn, LiesIn}
use Rattle.fond_task.specs.declared.form.Kleene.TheVariants.{No}
use Rattle.fond_task.specs.declared.task.Act.{Act}
use Rattle.fond_task.specs.declared.task.Entry.{Entry}
use Rattle.fond_task.specs.declared.task.Task.{Task}
use Rattle.fond_task.specs.Values.{value}
use Rattle.fond_task.specs.Images.{image}
use Rattle.fond_task.specs.Layers.{CubeView}

-- the image of a cube under each of these outcomes lies in the cube
abbrev pub AllStay : CubeView → List (List Entry) → Type 0
AllStay cube outcomes = (at : ℕ) (outcome : List Entry) → slice_get outcomes at ≡ Some outcome → CubeLiesIn (image cube outcome) cube

-- an action does not leave a cube: its precondition is No on it, or the image under each outcome lies in it
abbrev pub DoesStay : CubeView → Act → Type 0
DoesStay cube act = ¬ value cube act.pre ≡ No → AllStay cube act.outcomes

-- the action of this number does not leave a cube
abbrev pub StaysAt : Task → CubeView → ℕ → Type 0
StaysAt task cube number = (act : Act) → slice_get task.acts number ≡ Some act → DoesStay cube act

-- a cube is stable if no action leaves it
abbrev pub IsStable : Task → CubeView → Type 0
IsStable task cube = (number : ℕ) → StaysAt task cube number

-- a state is hopeless by a cube over the task's atoms: the cube is stable, the state lies in it, and the goal is No on it
pub record IsHopelessBy (task : Task) (state : List Bool) (cube : CubeView) : Type 0 where
  pub over : length cube ≡ length task.atoms
  pub stable : IsStable task cube
  pub lies : LiesIn state cube
  pub no_goal : value cube task.goal ≡ No

-- a state is hopeless if it is so by some cube
abbrev pub IsHopeless : Task → List Bool → Type 0
IsHopeless task state = (cube : CubeView) × IsHopelessBy task state cube
