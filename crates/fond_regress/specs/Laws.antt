-- The law of stable cubes.
use Rattle.std.specs.Prelude.{◌≡◌, List, [], ◌∷◌}
use Rattle.fond_task.specs.declared.form.Kleene.TheVariants.{No}
use Rattle.fond_task.specs.declared.task.Task.{Task}
use Rattle.fond_task.specs.Values.{value}
use Rattle.fond_task.specs.Layers.{CubeView, AreSureLayers}
use Rattle.fond_regress.specs.Stable.{IsStable}

-- a stable cube on which the goal is No is a sure layer by itself
abbrev pub StableCubesAreSure : Type 0
StableCubesAreSure = (task : Task) (cube : CubeView) → IsStable task cube → value cube task.goal ≡ No → AreSureLayers task ((cube ∷ []) ∷ [])
