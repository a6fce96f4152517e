use Rattle.std.proofs.Common.{◌∙◌, List, [], ◌∷◌, ◌++◌, ap, sym, subst, ◌<◌, ◌^◌, length}
use Rattle.std.proofs.lemmas.Result.{err_from_is_err_and}
use Rattle.fond_task.specs.Layers.{CubeView, IsSureLayer, AreSureLayers}
use Rattle.fond_task.proofs.Stacked.{AreSureLayers-push}
use Rattle.fond_layers.specs.Over.{IsOver, AreOver}
use Rattle.fond_task.specs.declared.task.Task.{Task}
use Rattle.fond_layers.specs.declared.fault.Spot.{Spot}
use Rattle.fond_layers.specs.declared.fault.Spot.TheVariants.{Goal, NotSure}
use Rattle.fond_layers.specs.Faults.{IsSpot, IsLayerFault, fault_of}
use Rattle.fond_layers.proofs.layers.Layers.push.Goals as goal

pub returns-in_err-add-clause-fault : goal.returns-in_err-add-clause-fault
returns-in_err-add-clause-fault c =
    let P : List (List CubeView) → Type 0 = λ layers. IsSureLayer c.args.t.now layers c.new-layer.result in
    let Q : List CubeView → Type 0 = λ layer. IsSureLayer c.args.t.now c.args.self.now layer in
    let p = err_from_is_err_and c.from_residual.result c.from_residual.ensures.1 in
    rw (p.1, p.2) (subst Q c.new-layer.ensures (subst P (c.as_slice.ensures.value ∙ c.self.view_is) c.in_default.ensures.spot))

pub returns-in_err-add-clause-sure : goal.returns-in_err-add-clause-sure
returns-in_err-add-clause-sure c = λ sure.
    let P : List (List CubeView) → Type 0 = λ layers. AreSureLayers c.args.t.now layers in
    subst P (sym c.in_err-add.ensures.err) sure

pub returns-clause-ok : goal.returns-clause-ok
returns-clause-ok c =
    let P : List (List CubeView) → Type 0 = λ layers. IsSureLayer c.args.t.now layers c.new-layer.result in
    let Q : List CubeView → Type 0 = λ layer. IsSureLayer c.args.t.now c.args.self.now layer in (
      c.in_ok-add.ensures.ok ∙ ap (λ layer. c.args.self.now ++ layer ∷ []) c.new-layer.ensures,
      subst Q c.new-layer.ensures (subst P (c.as_slice.ensures.value ∙ c.self.view_is) c.in_default.ensures.spot),
    )

pub returns-clause-sure : goal.returns-clause-sure
returns-clause-sure c = λ sure.
    let P : List (List CubeView) → Type 0 = λ layers. IsSureLayer c.args.t.now layers c.new-layer.result in
    let Q : List (List CubeView) → Type 0 = λ layers. AreSureLayers c.args.t.now layers in
    subst Q (sym c.in_ok-add.ensures.ok) (AreSureLayers-push c.args.t.now c.args.self.now c.new-layer.result sure (subst P (c.as_slice.ensures.value ∙ c.self.view_is) c.in_default.ensures.spot))

pub spot-requires-clause-few : goal.spot-requires-clause-few
spot-requires-clause-few c = subst (λ (layer : List CubeView). length layer < 2 ^ 32) (sym c.new-layer.ensures) c.requires.few_cubes

pub spot-requires-clause-earlier_over : goal.spot-requires-clause-earlier_over
spot-requires-clause-earlier_over c = subst (AreOver (length c.args.t.now.atoms)) (sym (c.as_slice.ensures.value ∙ c.self.view_is)) c.requires.over

pub spot-requires-clause-layer_over : goal.spot-requires-clause-layer_over
spot-requires-clause-layer_over c = subst (IsOver (length c.args.t.now.atoms)) (sym c.new-layer.ensures) c.requires.layer_over

pub add-requires-clause-few_cubes : goal.add-requires-clause-few_cubes
add-requires-clause-few_cubes c = subst (λ (layer : List CubeView). length layer < 2 ^ 32) (sym c.new-layer.ensures) c.requires.few_cubes

-- a spot is a fault of its layer
spot_fault : (task : Task) (earlier : List (List CubeView)) (layer : List CubeView) (spot : Spot) → IsSpot task earlier layer spot → IsLayerFault task earlier layer (fault_of spot)
spot_fault task earlier layer (Goal number) is = is
spot_fault task earlier layer (NotSure number act) is = is

pub returns-in-Some-clause-fault : goal.returns-in-Some-clause-fault
returns-in-Some-clause-fault c =
    let task = c.args.t.now in
    let before = c.args.self.now in
    let P : List (List CubeView) → Type 0 = λ layers. IsSpot task layers c.new-layer.result c.in-Some.spot in
    let Q : List CubeView → Type 0 = λ layer. IsSpot task before layer c.in-Some.spot in
    subst (IsLayerFault task before c.args.l) (sym c.from.ensures)
    (spot_fault task before c.args.l c.in-Some.spot (subst Q c.new-layer.ensures (subst P (c.as_slice.ensures.value ∙ c.self.view_is) c.in-Some.ensures.spot)))
