use Rattle.std.proofs.Common.{ℕ, ◌<◌, List, get_or}
use Rattle.fond_task.specs.Layers.{CubeView}
use Rattle.fond_layers.specs.Over.{IsOver}
use Rattle.fond_layers.proofs.layers.Layers.are_over.Given as goal

abbrev pub invariant-loop-layer : goal.invariant-loop-layer
invariant-loop-layer l = (k : ℕ) (d : List CubeView) → k < l.layer-index → IsOver l.atoms (get_or l.layer-items k d)
