use Rattle.std.proofs.Common.{◌≡◌, ℕ, ◌<◌, length, get_or}
use Rattle.fond_task.specs.Layers.{CubeView}
use Rattle.fond_layers.proofs.layers.is_over.Given as goal

abbrev pub invariant-loop-cube : goal.invariant-loop-cube
invariant-loop-cube l = (k : ℕ) (d : CubeView) → k < l.cube-index → length (get_or l.cube-items k d) ≡ l.atoms
