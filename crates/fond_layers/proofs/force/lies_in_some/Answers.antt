use Rattle.std.proofs.Common.{List, refl, arith}
use Rattle.std.proofs.lemmas.Bool.{false≢true}
use Rattle.fond_task.specs.Layers.{CubeView, LiesInLayer}
use Rattle.fond_layers.proofs.Tried.{read_Contains, all_more, all_of}
use Rattle.fond_layers.proofs.force.lies_in_some.Goals as goal

pub returns-then-has_around : goal.returns-then-has_around
returns-then-has_around c =
    let has = read_Contains c.args.layers.now c.loop-layer.layer-index c.layer-item.result c.loop-layer-test.true c.layer-item.is in
    (λ e. (c.layer-item.result, has, c.if-has_around.ensures.0 refl), λ lies. refl)

pub loop-layer-preserved : goal.loop-layer-preserved
loop-layer-preserved c =
    let Free : List CubeView → Type 0 = λ layer. ¬ LiesInLayer c.args.cube.now layer in
    all_more c.args.layers.now Free c.loop-layer.layer-index c.layer-item.result c.loop-layer-test.true c.layer-item.is (λ lies. false≢true (c.if-has_around.ensures.1 lies)) c.loop-layer.invariant

pub returns : goal.returns
returns c =
    let Free : List CubeView → Type 0 = λ layer. ¬ LiesInLayer c.args.cube.now layer in
    (λ e. absurd (false≢true e), λ lies. absurd (all_of c.args.layers.now Free c.loop-layer.layer-index (omega (arith, c.loop-layer-test.false)) c.loop-layer.invariant lies.0 lies.1 lies.2))
