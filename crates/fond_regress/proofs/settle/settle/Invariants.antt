use Rattle.std.proofs.Common.{◌≡◌, ◌+◌, false}
use Rattle.std.specs.Prelude.{length, if◌then◌else◌}
use Rattle.fond_state.specs.Cubes.{CubeLiesIn}
use Rattle.fond_task.specs.Layers.{CubeView}
use Rattle.fond_regress.specs.Stable.{IsStable}
use Rattle.fond_regress.specs.Weaker.{literals}
use Rattle.fond_regress.proofs.settle.settle.Given as goal

abbrev pub invariant-loop-open : goal.invariant-loop-open
invariant-loop-open l = record {
  long : length l.scratch ≡ length l.cube;
  same : length l.cube ≡ length l.initial.cube;
  lies : CubeLiesIn l.initial.cube l.cube;
  around : (around : CubeView) → length around ≡ length l.t.atoms → IsStable l.t around → CubeLiesIn l.initial.cube around → CubeLiesIn l.cube around;
  stable : l.open ≡ false → IsStable l.t l.cube;
}

abbrev pub decreases-loop-open : goal.decreases-loop-open
decreases-loop-open l = literals l.cube + (if l.open then 1 else 0)
