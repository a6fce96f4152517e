-- Layers that are sure above earlier ones, and pairs whose action may lead into such a layer.
use Rattle.std.specs.Prelude.{◌≡◌, ◌⊎◌, List, ◌∷◌, ◌++◌, Bool, true, false, Option, Some, slice_get, Contains}
use Rattle.fond_state.specs.Cubes.{CubeLiesIn}
use Rattle.fond_task.specs.declared.form.Kleene.TheVariants.{No}
use Rattle.fond_task.specs.declared.task.Act.{Act}
use Rattle.fond_task.specs.declared.task.Entry.{Entry}
use Rattle.fond_task.specs.declared.task.Task.{Task}
use Rattle.fond_task.specs.Values.{value}
use Rattle.fond_task.specs.Images.{image}
use Rattle.fond_task.specs.declared.rule.Pair.{Pair}

-- a cube by the signs of its literals, atom by atom
abbrev pub CubeView : Type 0
CubeView = List (Option Bool)

-- a cube lies in one cube of a layer
pub record LiesInLayer (cube : CubeView) (layer : List CubeView) : Type 0 where
  pub other : CubeView
  pub one : Contains layer other
  pub lies : CubeLiesIn cube other

-- an outcome leads from a cube into one cube of a layer
abbrev pub Leads : CubeView → List Entry → List CubeView → Type 0
Leads cube outcome layer = LiesInLayer (image cube outcome) layer

-- some outcome of an action leads from a cube into a layer
abbrev pub SomeLeads : CubeView → Act → List CubeView → Type 0
SomeLeads cube act layer = (outcome : List Entry) × Contains act.outcomes outcome × Leads cube outcome layer

-- each outcome of an action leads from a cube into a layer
abbrev pub EachLeads : CubeView → Act → List CubeView → Type 0
EachLeads cube act layer = (outcome : List Entry) → Contains act.outcomes outcome → Leads cube outcome layer

-- taking an action in a cube may lead into this layer again or into an earlier one: some outcome leads into an
-- earlier layer; or the action is fair and each outcome leads into this layer; or it is unfair and some outcome does
abbrev pub Forces : List (List CubeView) → List CubeView → CubeView → Act → Type 0
Forces earlier layer cube act =
    ((before : List CubeView) × Contains earlier before × SomeLeads cube act before)
    ⊎ (((act.unfair ≡ false) × EachLeads cube act layer) ⊎ ((act.unfair ≡ true) × SomeLeads cube act layer))

-- a cube of a layer is sure above the earlier layers if the goal is No on it, and each action whose precondition is
-- not No on it leads into this layer or an earlier one
pub record IsSureCube (task : Task) (earlier : List (List CubeView)) (layer : List CubeView) (cube : CubeView) : Type 0 where
  pub no_goal : value cube task.goal ≡ No
  pub forced : (act : Act) → Contains task.acts act → ¬ value cube act.pre ≡ No → Forces earlier layer cube act

-- a layer is sure above the earlier layers if each of its cubes is
abbrev pub IsSureLayer : Task → List (List CubeView) → List CubeView → Type 0
IsSureLayer task earlier layer = (cube : CubeView) → Contains layer cube → IsSureCube task earlier layer cube

-- each layer of the list is sure above those before it
abbrev pub AreSureLayers : Task → List (List CubeView) → Type 0
AreSureLayers task layers = (before : List (List CubeView)) (layer : List CubeView) (after : List (List CubeView)) → layers ≡ before ++ layer ∷ after → IsSureLayer task before layer

-- a pair is sure if its layer, the cube of that layer and the outcome of its action exist, and the outcome leads from
-- the pair's cube into that cube
pub record IsSurePair (task : Task) (layers : List (List CubeView)) (pair : Pair) : Type 0 where
  pub layer : List CubeView
  pub has_layer : slice_get layers pair.layer ≡ Some layer
  pub target : CubeView
  pub has_target : slice_get layer pair.cube ≡ Some target
  pub act : Act
  pub has_act : slice_get task.acts pair.act ≡ Some act
  pub outcome : List Entry
  pub has_outcome : slice_get act.outcomes pair.outcome ≡ Some outcome
  pub leads : CubeLiesIn (image pair.cond outcome) target
