use Rattle.std.proofs.Common.{◌≡◌, ℕ, ◌<◌, List, Bool, false, Some}
use Rattle.std.specs.Prelude.{length, slice_get}
use Rattle.fond_state.specs.Cubes.{CubeLiesIn}
use Rattle.fond_task.specs.declared.form.Kleene.TheVariants.{No}
use Rattle.fond_task.specs.declared.task.Entry.{Entry}
use Rattle.fond_task.specs.Values.{value}
use Rattle.fond_task.specs.Images.{image}
use Rattle.fond_task.specs.Layers.{CubeView}
use Rattle.fond_regress.specs.Stable.{DoesStay}
use Rattle.fond_regress.specs.Weaker.{IsWeaker}
use Rattle.fond_regress.proofs.weaken.take_act.Given as goal

abbrev pub invariant-loop-k : goal.invariant-loop-k
invariant-loop-k l = record {
  long : length l.scratch ≡ length l.initial.cube;
  weaker : IsWeaker l.initial.cube l.cube l.changed;
  may : ¬ value l.cube l.act.pre ≡ No;
  around : (around : CubeView) → length around ≡ length l.initial.cube → CubeLiesIn l.initial.cube around → DoesStay around l.act → CubeLiesIn l.cube around;
  stays : l.changed ≡ false → (at : ℕ) (outcome : List Entry) → at < l.k → slice_get l.act.outcomes at ≡ Some outcome → CubeLiesIn (image l.cube outcome) l.cube;
}
