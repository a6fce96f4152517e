use Rattle.std.proofs.Common.{◌≡◌, ◌<◌, ◌∙◌, List, length, sym, subst}
use Rattle.std.specs.Prelude.{All, slice_get, Some}
use Rattle.std.proofs.lemmas.List.Elements.{All-get_or}
use Rattle.std.proofs.lemmas.Option.{get_or_from_slice_get, same_Some, slice_get_within}
use Rattle.fond_task.specs.Layers.{CubeView}
use Rattle.fond_layers.specs.Over.{IsOver}
use Rattle.fond_regress.proofs.pair.Place.named.Goals as goal

-- what holds of each element holds of the one at an index
all_at : {X : Type 0} (P : X → Type 0) (xs : List X) (i : _) (x : X) → All P xs → slice_get xs i ≡ Some x → P x
all_at P xs i x all is = subst P (get_or_from_slice_get xs i x x is) (All-get_or P xs i x (slice_get_within xs i x is) all)

pub get-requires : goal.get-requires
get-requires c = slice_get_within c.args.self.now.layers.now c.args.layer c.requires.cubes c.requires.has_layer

pub get-requires-2 : goal.get-requires-2
get-requires-2 c =
    let same : c.requires.cubes ≡ c.get.result.now = same_Some _ _ (sym c.requires.has_layer ∙ c.get.ensures.layer) in
    subst (λ (layer : List CubeView). c.args.cube < length layer) same (slice_get_within c.requires.cubes c.args.cube c.requires.target c.requires.has_cube)

pub returns-clause-over : goal.returns-clause-over
returns-clause-over c =
    let atoms = length c.args.self.now.task.now.atoms in
    let layer = c.get.result.now in
    let over = all_at (IsOver atoms) c.args.self.now.layers.now c.args.layer layer c.args.self.now.over c.get.ensures.layer in
    all_at (λ (cube : CubeView). length cube ≡ atoms) layer c.args.cube c.get-2.result.now over c.get-2.ensures

pub returns-clause-named : goal.returns-clause-named
returns-clause-named c = (c.get.result.now, c.get.ensures.layer, c.get-2.ensures)
