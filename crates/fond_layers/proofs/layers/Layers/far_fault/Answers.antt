use Rattle.std.proofs.Common.{◌≡◌, ◌∙◌, ℕ, zero, suc, ◌<◌, ◌-◌, List, [], Option, Some, None, slice_get, ap, sym, subst, length, refl, arith}
use Rattle.std.specs.Prelude.{MatchOption}
use Rattle.std.proofs.lemmas.Option.{slice_get_within, get_or_from_slice_get}
use Rattle.fond_task.specs.declared.task.Task.{Task}
use Rattle.fond_task.specs.Layers.{CubeView}
use Rattle.fond_task.proofs.Lists.{same_numbered}
use Rattle.fond_layers.specs.declared.fault.Spot.{Spot}
use Rattle.fond_layers.specs.declared.fault.Spot.TheVariants.{Goal, NotSure}
use Rattle.fond_layers.specs.Far.{list_before, IsFarList, IsFarSpot}
use Rattle.fond_layers.specs.Over.{IsOver, AreOver}
use Rattle.fond_layers.proofs.layers.Layers.far_fault.Goals as goal

-- what is found of a list, given the one before it
abbrev Tells : Task → List (List CubeView) → Option (List CubeView) → Option Spot → List CubeView → Type 0
Tells task layers before found cubes = MatchOption found (IsFarList task layers before cubes) (IsFarSpot task layers before cubes)

-- without a list before it, a list is far or not whatever the layers
any_layers : (task : Task) (layers : List (List CubeView)) (cubes : List CubeView) (found : Option Spot) → Tells task [] None found cubes → Tells task layers None found cubes
any_layers task layers cubes None told = told
any_layers task layers cubes (Some (Goal number)) told = told
any_layers task layers cubes (Some (NotSure number act)) told = told

-- the first list has none before it, and each later one has the one of the number before its own
none_before : (far : List (List CubeView)) (at : ℕ) → at ≡ 0 → None ≡ list_before far at
none_before far zero is = refl
none_before far (suc at) is = absurd (omega (arith, is))

one_before : (far : List (List CubeView)) (at : ℕ) (before : List CubeView) → ¬ (at ≡ 0) → slice_get far (at - 1) ≡ Some before → Some before ≡ list_before far at
one_before far zero before more is = absurd (more refl)
one_before far (suc at) before more is = let same : suc at - 1 ≡ at = omega arith in sym is ∙ ap (slice_get far) same

over_at : (atoms : ℕ) (far : List (List CubeView)) (at : ℕ) (cubes : List CubeView) → AreOver atoms far → slice_get far at ≡ Some cubes → IsOver atoms cubes
over_at atoms far at cubes over is = subst (IsOver atoms) (get_or_from_slice_get far at cubes cubes is) (over at cubes (slice_get_within far at cubes is))

pub spot-requires-clause-over : goal.spot-requires-clause-over
spot-requires-clause-over c = over_at (length c.args.t.now.atoms) c.args.far.now c.args.at c.layer-2.result.now c.requires.far_over c.layer-2.ensures.layer

pub spot-requires-clause-layer_over : goal.spot-requires-clause-layer_over
spot-requires-clause-layer_over c = over_at (length c.args.t.now.atoms) c.args.far.now (c.args.at - 1) c.layer.result.now c.requires.far_over c.layer.ensures.layer

pub returns-then-at-eq0-clause-spot : goal.returns-then-at-eq0-clause-spot
returns-then-at-eq0-clause-spot c = λ cubes at.
    let task = c.args.t.now in
    let layers = c.args.self.now in
    let far = c.args.far.now in
    let own : c.as_slice.result.now ≡ cubes = c.as_slice.ensures ∙ same_numbered far c.args.at c.get.result.now cubes c.get.ensures.layer at in
    let After : Option (List CubeView) → Type 0 = λ before. Tells task layers before c.goal_spot.result cubes in
    subst After (none_before far c.args.at c.if-at-eq0.true) (any_layers task layers cubes c.goal_spot.result (subst (Tells task [] None c.goal_spot.result) own c.goal_spot.ensures))

pub returns-clause-spot : goal.returns-clause-spot
returns-clause-spot c = λ cubes at.
    let task = c.args.t.now in
    let layers = c.args.self.now in
    let far = c.args.far.now in
    let own : c.layer-2.result.now ≡ cubes = same_numbered far c.args.at c.layer-2.result.now cubes c.layer-2.ensures.layer at in
    let Of : List (List CubeView) → Type 0 = λ earlier. Tells task earlier (Some c.layer.result.now) c.spot.result c.layer-2.result.now in
    let After : Option (List CubeView) → Type 0 = λ before. Tells task layers before c.spot.result c.layer-2.result.now in
    let told : Of layers = subst Of (c.as_slice-2.ensures.value ∙ c.self.view_is) c.spot.ensures.spot in
    subst (Tells task layers (list_before far c.args.at) c.spot.result) own
    (subst After (one_before far c.args.at c.layer.result.now c.if-at-eq0.false c.layer.ensures.layer) told)
