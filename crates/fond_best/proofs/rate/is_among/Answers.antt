use Rattle.std.proofs.Common.{◌∙◌, List, refl, sym, subst}
use Rattle.std.specs.Prelude.{Contains}
use Rattle.std.proofs.lemmas.Bool.{false≢true}
use Rattle.fond_state.specs.Cubes.{LiesIn}
use Rattle.fond_state.proofs.Tested.{lies_in-Decides}
use Rattle.fond_task.specs.Layers.{CubeView}
use Rattle.fond_layers.proofs.Tried.{all_more, read_Contains}
use Rattle.fond_best.proofs.rate.is_among.Goals as goal

pub returns-then-holds : goal.returns-then-holds
returns-then-holds c =
    let items = c.as_slice-cube-items.result.now in
    let P : List CubeView → Type 0 = λ cubes. Contains cubes c.cube-item.result in
    (λ is. (c.cube-item.result, subst P c.as_slice-cube-items.ensures (read_Contains items c.loop-cube.cube-index c.cube-item.result c.loop-cube-test.true c.cube-item.is), (lies_in-Decides c.args.state.now c.cube-item.result).0 (sym c.if-holds.ensures)), λ some. refl)

pub loop-cube-preserved : goal.loop-cube-preserved
loop-cube-preserved c =
    let Out : CubeView → Type 0 = λ cube. ¬ LiesIn c.args.state.now cube in
    all_more c.as_slice-cube-items.result.now Out c.loop-cube.cube-index c.cube-item.result c.loop-cube-test.true c.cube-item.is (λ lies. false≢true (c.if-holds.ensures ∙ (lies_in-Decides c.args.state.now c.cube-item.result).1 lies)) c.loop-cube.invariant
