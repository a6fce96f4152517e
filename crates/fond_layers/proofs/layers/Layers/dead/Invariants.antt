use Rattle.std.proofs.Common.{ℕ, ◌<◌, List, get_or}
use Rattle.std.specs.Prelude.{Contains}
use Rattle.fond_task.specs.Layers.{CubeView}
use Rattle.fond_state.specs.Cubes.{LiesIn}
use Rattle.fond_layers.proofs.layers.Layers.dead.Given as goal

abbrev pub invariant-loop-number : goal.invariant-loop-number
invariant-loop-number l = (k : ℕ) (d : List CubeView) → k < l.number → (cube : CubeView) → Contains (get_or l.layer-items k d) cube → ¬ LiesIn l.s cube
