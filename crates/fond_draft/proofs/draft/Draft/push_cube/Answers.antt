use Rattle.std.proofs.Common.{◌≡◌, ◌<◌, ◌^◌, ◌∙◌, [], ◌∷◌, ◌++◌, List, true, length, sym, ap, subst, arith}
use Rattle.std.specs.Prelude.{Decides, IfOk}
use Rattle.fond_task.specs.Layers.{CubeView, IsSureLayer}
use Rattle.fond_layers.specs.Over.{IsOver}
use Rattle.fond_draft.proofs.Lists.{only_one}
use Rattle.fond_draft.proofs.draft.Draft.push_cube.Goals as goal

pub push_layer-requires-clause-over : goal.push_layer-requires-clause-over
push_layer-requires-clause-over c =
    let atoms = length c.args.t.now.atoms in
    let one : c.push.new.self ≡ c.args.cube ∷ [] = c.in_ok-push.ensures.ok ∙ ap (λ cubes. cubes ++ c.args.cube ∷ []) c.new-layer.ensures in
    subst (IsOver atoms) (sym one) (only_one (λ (cube : CubeView). length cube ≡ atoms) c.args.cube c.requires.over)

pub push_layer-requires-clause-few : goal.push_layer-requires-clause-few
push_layer-requires-clause-few c =
    let one : c.push.new.self ≡ c.args.cube ∷ [] = c.in_ok-push.ensures.ok ∙ ap (λ cubes. cubes ++ c.args.cube ∷ []) c.new-layer.ensures in
    subst (λ (layer : List CubeView). length layer < 2 ^ 32) (sym one) (omega (arith))

pub returns-clause-kept : goal.returns-clause-kept
returns-clause-kept c =
    let one : c.push.new.self ≡ c.args.cube ∷ [] = c.in_ok-push.ensures.ok ∙ ap (λ cubes. cubes ++ c.args.cube ∷ []) c.new-layer.ensures in
    subst (λ (layer : List CubeView). IfOk c.push_layer.result (λ kept. kept ≡ true → c.push_layer.new.self.layers ≡ c.args.self.now.layers ++ layer ∷ [])) one c.push_layer.ensures.kept

pub returns-clause-decides : goal.returns-clause-decides
returns-clause-decides c =
    let one : c.push.new.self ≡ c.args.cube ∷ [] = c.in_ok-push.ensures.ok ∙ ap (λ cubes. cubes ++ c.args.cube ∷ []) c.new-layer.ensures in
    subst (λ (layer : List CubeView). IfOk c.push_layer.result (λ kept. Decides kept (IsSureLayer c.args.t.now c.args.self.now.layers layer))) one c.push_layer.ensures.decides
