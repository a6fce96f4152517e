use Rattle.std.proofs.Common.{◌≡◌, length}
use Rattle.fond_task.specs.Layers.{IsSureCube}
use Rattle.fond_layers.proofs.Tried.{AllBefore}
use Rattle.fond_layers.proofs.sure.spot.Given as goal

abbrev pub invariant-loop-number : goal.invariant-loop-number
invariant-loop-number l = record {
  long : length l.image ≡ length l.t.atoms;
  sure : AllBefore l.cube-items (IsSureCube l.t l.earlier l.layer) l.number;
}
