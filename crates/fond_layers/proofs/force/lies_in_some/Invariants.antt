use Rattle.std.proofs.Common.{ℕ, ◌<◌, List, get_or}
use Rattle.fond_task.specs.Layers.{CubeView, LiesInLayer}
use Rattle.fond_layers.proofs.force.lies_in_some.Given as goal

abbrev pub invariant-loop-layer : goal.invariant-loop-layer
invariant-loop-layer l = (k : ℕ) (d : List CubeView) → k < l.layer-index → ¬ LiesInLayer l.cube (get_or l.layers k d)
