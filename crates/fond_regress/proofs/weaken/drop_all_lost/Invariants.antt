use Rattle.std.proofs.Common.{◌≡◌, ℕ, ◌<◌, Bool, Some}
use Rattle.std.specs.Prelude.{length}
use Rattle.fond_state.specs.Cubes.{CubeLiesIn, literal_at}
use Rattle.fond_task.specs.Layers.{CubeView}
use Rattle.fond_regress.specs.Weaker.{IsWeaker}
use Rattle.fond_regress.proofs.weaken.drop_all_lost.Given as goal

abbrev pub invariant-loop-atom : goal.invariant-loop-atom
invariant-loop-atom l = record {
  weaker : IsWeaker l.initial.cube l.cube l.changed;
  kept : (k : ℕ) (sign : Bool) → k < l.atom → literal_at l.cube k ≡ Some sign → literal_at l.other k ≡ Some sign;
  least : (around : CubeView) → CubeLiesIn l.initial.cube around → CubeLiesIn l.other around → CubeLiesIn l.cube around;
}
