-- Far lists: lists of cubes, numbered from 0. From the states of a list each solution needs, at worst, more lucky steps than its number.
use Rattle.std.specs.Prelude.{◌≡◌, ℕ, zero, suc, List, Option, Some, None, slice_get, take, Contains}
use Rattle.fond_task.specs.declared.form.Kleene.TheVariants.{No}
use Rattle.fond_task.specs.declared.task.Task.{Task}
use Rattle.fond_task.specs.Values.{value}
use Rattle.fond_task.specs.Layers.{CubeView, IsSureCube}
use Rattle.fond_layers.specs.declared.fault.Spot.{Spot}
use Rattle.fond_layers.specs.declared.fault.Spot.TheVariants.{Goal, NotSure}
use Rattle.fond_layers.specs.Faults.{IsSpotInto}

-- the list before the one of this number, if there is one
abbrev pub list_before : List (List CubeView) → ℕ → Option (List CubeView)
list_before far zero = None
list_before far (suc at) = slice_get far at

-- a list is far if the goal is No on each of its cubes and, where there is a list before it, each action whose precondition is
-- not No on the cube may lead into a layer, or is fair and leads into the list before with each outcome, or is unfair and leads
-- into it with some outcome
abbrev pub IsFarList : Task → List (List CubeView) → Option (List CubeView) → List CubeView → Type 0
IsFarList task layers None cubes = (cube : CubeView) → Contains cubes cube → value cube task.goal ≡ No
IsFarList task layers (Some before) cubes = (cube : CubeView) → Contains cubes cube → IsSureCube task layers before cube

-- each list is far
abbrev pub AreFarLists : Task → List (List CubeView) → List (List CubeView) → Type 0
AreFarLists task layers far = (at : ℕ) (cubes : List CubeView) → slice_get far at ≡ Some cubes → IsFarList task layers (list_before far at) cubes

-- the cube of this number is the first of some on which the goal is not No
pub record IsFirstGoal (task : Task) (cubes : List CubeView) (number : ℕ) : Type 0 where
  pub cube : CubeView
  pub has_cube : slice_get cubes number ≡ Some cube
  pub goal : ¬ value cube task.goal ≡ No
  pub first : (other : CubeView) → Contains (take number cubes) other → value other task.goal ≡ No

-- a spot is what is wrong with a list that is not far: the first of its cubes that fails, and how
abbrev pub IsFarSpot : Task → List (List CubeView) → Option (List CubeView) → List CubeView → Spot → Type 0
IsFarSpot task layers None cubes (Goal number) = IsFirstGoal task cubes number
IsFarSpot task layers None cubes (NotSure number act) = ⊥
IsFarSpot task layers (Some before) cubes spot = IsSpotInto task layers before cubes spot
