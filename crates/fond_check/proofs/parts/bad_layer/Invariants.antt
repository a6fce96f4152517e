use Rattle.std.proofs.Common.{◌≡◌, length, take}
use Rattle.fond_task.specs.Layers.{AreSureLayers}
use Rattle.fond_check.proofs.parts.bad_layer.Given as goal

-- the layers so far are sure
abbrev pub invariant-loop-at : goal.invariant-loop-at
invariant-loop-at l = record {
  long : length l.image ≡ length l.t.atoms;
  sure : AreSureLayers l.t (take l.at l.layers);
}
