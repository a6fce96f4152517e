use Rattle.std.proofs.Common.{◌≡◌, ◌∙◌, List, take, ap, subst, length, sym}
use Rattle.std.specs.Prelude.{MatchOption}
use Rattle.std.proofs.lemmas.List.Elements.{All-take}
use Rattle.fond_task.specs.Layers.{CubeView, IsSureLayer}
use Rattle.fond_task.proofs.Lists.{same_numbered}
use Rattle.fond_layers.specs.Faults.{IsSpot}
use Rattle.fond_layers.specs.Over.{IsOver, AreOver}
use Rattle.fond_layers.proofs.layers.Layers.fault.Goals as goal

pub returns-clause-spot : goal.returns-clause-spot
returns-clause-spot c = λ layer at.
    let task = c.args.t.now in
    let layers = c.args.self.now in
    let own : c.layer-layer.result.now ≡ layer = same_numbered layers c.args.at c.layer-layer.result.now layer c.layer-layer.ensures.layer at in
    let P : List CubeView → Type 0 = λ layer. MatchOption c.spot.result (IsSureLayer task (take c.args.at layers) layer) (IsSpot task (take c.args.at layers) layer) in
    let Q : List (List CubeView) → Type 0 = λ earlier. MatchOption c.spot.result (IsSureLayer task earlier c.layer-layer.result.now) (IsSpot task earlier c.layer-layer.result.now) in
    subst P own (subst Q (ap (take c.args.at) (c.deref.ensures.value ∙ c.self.view_is)) c.spot.ensures.spot)

pub spot-requires-clause-earlier_over : goal.spot-requires-clause-earlier_over
spot-requires-clause-earlier_over c =
    let atoms = length c.args.t.now.atoms in
    let P : List (List CubeView) → Type 0 = λ layers. AreOver atoms (take c.args.at layers) in
    subst P (sym (c.deref.ensures.value ∙ c.self.view_is)) (All-take (IsOver atoms) c.args.at c.args.self.now c.requires.over)
