use Rattle.std.proofs.Common.{◌≡◌, ◌<◌, ◌∷◌, ◌++◌, [], ℕ, List, length, slice_get, sym, ap, ◌∙◌, subst}
use Rattle.std.proofs.lemmas.Option.{same_Some, slice_get_within}
use Rattle.fond_state.specs.Cubes.{LiesIn}
use Rattle.fond_task.specs.Layers.{CubeView}
use Rattle.fond_layers.specs.Over.{AreOver}
use Rattle.fond_task.proofs.Lists.{Contains_numbered}
use Rattle.fond_weak.specs.Weak.{ShowsLost}
use Rattle.fond_weak.proofs.Lost.{shows_lost}
use Rattle.fond_weak.proofs.weak.lost_layer.Goals as goal

pub returns : goal.returns
returns c =
    let setting = c.args.setting.now in
    let task = setting.task.now in
    let layers = setting.layers.now in
    let from = setting.from.now in
    let dead = c.in-Some.ensures in
    let layer = c.get.result.now in
    let cube = c.get-2.result.now in
    let same_layer : dead.layer ≡ layer = same_Some dead.layer layer (sym dead.has_layer ∙ c.get.ensures.layer) in
    let same_cube : dead.one.cube ≡ cube = same_Some dead.one.cube cube (sym dead.one.has_cube ∙ ap (λ (l : List CubeView). slice_get l c.in-Some.cube) same_layer ∙ c.get-2.ensures) in
    let lies : LiesIn from cube = subst (λ (d : CubeView). LiesIn from d) same_cube dead.one.lies in
    let alone : c.push.new.self ≡ cube ∷ []
    = c.in_ok-push.ensures.ok ∙ ap (λ (l : List CubeView). l ++ c.in_ok-cube.cube ∷ []) c.new-lost.ensures ∙ ap (λ (d : CubeView). d ∷ []) c.in_ok-cube.ensures in
    let P : List CubeView → Type 0 = λ l. ShowsLost task layers from l in
    subst P (sym alone) (shows_lost task layers setting.layers_over c.requires c.in-Some.layer layer c.get.ensures.layer cube (Contains_numbered layer c.in-Some.cube cube c.get-2.ensures) from lies)

pub dead-requires : goal.dead-requires
dead-requires c = subst (λ (n : ℕ). AreOver n c.args.setting.now.layers.now) (sym c.args.setting.now.long) c.args.setting.now.layers_over

pub get-requires : goal.get-requires
get-requires c = slice_get_within c.args.setting.now.layers.now c.in-Some.layer c.in-Some.ensures.layer c.in-Some.ensures.has_layer

pub get-requires-2 : goal.get-requires-2
get-requires-2 c =
    let dead = c.in-Some.ensures in
    let same : dead.layer ≡ c.get.result.now = same_Some dead.layer c.get.result.now (sym dead.has_layer ∙ c.get.ensures.layer) in
    subst (λ (l : List CubeView). c.in-Some.cube < length l) same (slice_get_within dead.layer c.in-Some.cube dead.one.cube dead.one.has_cube)
