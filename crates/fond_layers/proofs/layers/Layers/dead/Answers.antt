use Rattle.std.proofs.Common.{◌∙◌, List, sym, subst, arith}
use Rattle.std.specs.Prelude.{Contains}
use Rattle.fond_state.specs.Cubes.{LiesIn}
use Rattle.fond_task.specs.Layers.{CubeView}
use Rattle.fond_layers.specs.Deads.{IsFirstDead}
use Rattle.fond_layers.proofs.Tried.{read_at, all_front, all_more, all_of}
use Rattle.fond_layers.proofs.layers.Layers.dead.Goals as goal

pub returns-in-Some : goal.returns-in-Some
returns-in-Some c =
    let state = c.args.s.now in
    let items = c.as_slice-layer-items.result.now in
    let i = c.loop-number.number in
    let Free : List CubeView → Type 0 = λ layer. (cube : CubeView) → Contains layer cube → ¬ LiesIn state cube in
    let P : List (List CubeView) → Type 0 = λ layers. IsFirstDead state layers i c.in-Some.cube in
    let found : IsFirstDead state items i c.in-Some.cube = record {
      layer = c.layer-item.result;
      has_layer = read_at items i c.layer-item.result c.loop-number-test.true c.layer-item.is;
      one = c.in-Some.ensures;
      first = λ lies. all_front items Free i (omega (arith, c.loop-number-test.true)) c.loop-number.invariant lies.layer lies.one lies.cube lies.has lies.lies;
    } in
    subst P (c.as_slice-layer-items.ensures.value ∙ c.self.view_is) found

pub loop-number-preserved : goal.loop-number-preserved
loop-number-preserved c =
    let Free : List CubeView → Type 0 = λ layer. (cube : CubeView) → Contains layer cube → ¬ LiesIn c.args.s.now cube in
    all_more c.as_slice-layer-items.result.now Free c.loop-number.number c.layer-item.result c.loop-number-test.true c.layer-item.is c.in_default.ensures c.loop-number.invariant

pub returns : goal.returns
returns c = λ lies.
    let Free : List CubeView → Type 0 = λ layer. (cube : CubeView) → Contains layer cube → ¬ LiesIn c.args.s.now cube in
    let P : List (List CubeView) → Type 0 = λ layers. Contains layers lies.layer in
    all_of c.as_slice-layer-items.result.now Free c.loop-number.number (omega (arith, c.loop-number-test.false)) c.loop-number.invariant lies.layer
    (subst P (sym (c.as_slice-layer-items.ensures.value ∙ c.self.view_is)) lies.one) lies.cube lies.has lies.lies
