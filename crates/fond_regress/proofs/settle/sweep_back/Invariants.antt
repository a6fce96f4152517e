use Rattle.std.proofs.Common.{◌≡◌, ℕ, ◌<◌, Bool, false}
use Rattle.std.specs.Prelude.{length}
use Rattle.fond_state.specs.Cubes.{CubeLiesIn}
use Rattle.fond_task.specs.Layers.{CubeView}
use Rattle.fond_regress.specs.Stable.{IsStable, StaysAt}
use Rattle.fond_regress.specs.Weaker.{IsWeaker}
use Rattle.fond_regress.proofs.settle.sweep_back.Given as goal

abbrev pub invariant-loop-done : goal.invariant-loop-done
invariant-loop-done l = record {
  long : length l.scratch ≡ length l.initial.cube;
  weaker : IsWeaker l.initial.cube l.cube l.changed;
  around : (around : CubeView) → length around ≡ length l.t.atoms → IsStable l.t around → CubeLiesIn l.initial.cube around → CubeLiesIn l.cube around;
}
