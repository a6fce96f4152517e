-- Items: partial states with a way to go on, and when these are sure and lean.
use Rattle.std.specs.Prelude.{◌≡◌, ℕ, ◌<◌, List, Bool, Some, slice_get, slice_set, length, map}
use Rattle.fond_state.specs.Cubes.{literal_at, CubeLiesIn, Contradicts, without_literal}
use Rattle.fond_task.specs.declared.form.Kleene.TheVariants.{Yes}
use Rattle.fond_task.specs.declared.task.Act.{Act}
use Rattle.fond_task.specs.declared.task.Entry.{Entry}
use Rattle.fond_task.specs.declared.task.Task.{Task}
use Rattle.fond_task.specs.Values.{value}
use Rattle.fond_task.specs.Images.{image}
use Rattle.fond_task.specs.declared.rule.Rule.{Rule}
use Rattle.fond_task.specs.Layers.{CubeView}
use Rattle.fond_policy.specs.declared.item.Item.{Item}
use Rattle.fond_policy.specs.declared.item.Way.{Way}
use Rattle.fond_policy.specs.declared.item.Way.TheVariants.{Goal, Rule as ByRule}

-- a condition, and the action that is chosen where it is the first of a list that holds
pub record First : Type 0 where
  pub cond : CubeView
  pub act : ℕ

-- the condition and the action of a rule
abbrev pub first_of : Rule → First
first_of rule = record { cond = rule.cond; act = rule.act }

-- the conditions and actions of rules
abbrev pub firsts_of : List Rule → List First
firsts_of rules = map first_of rules

-- a cube contradicts each condition before that of this number
abbrev pub IsApart : List First → ℕ → CubeView → Type 0
IsApart firsts rule cube = (before : ℕ) (other : First) → before < rule → slice_get firsts before ≡ Some other → Contradicts cube other.cond

-- the condition of this number is the first that holds in each state of a cube: the cube lies in it, and contradicts each
-- condition before it
pub record IsFirstOn (firsts : List First) (rule : ℕ) (cube : CubeView) : Type 0 where
  pub first : First
  pub numbered : slice_get firsts rule ≡ Some first
  pub lies : CubeLiesIn cube first.cond
  pub apart : IsApart firsts rule cube

-- a cube lies in the cube of the item of this number
pub record LiesInItem (items : List Item) (cube : CubeView) (number : ℕ) : Type 0 where
  pub item : Item
  pub numbered : slice_get items number ≡ Some item
  pub lies : CubeLiesIn cube item.cube

-- there are as many numbers as outcomes of an action; each names an item, and the image of the cube under the outcome at its place
-- lies in the cube of that item
pub record LeadInto (items : List Item) (act : Act) (cube : CubeView) (numbers : List ℕ) : Type 0 where
  pub counted : length numbers ≡ length act.outcomes
  pub each : (at number : ℕ) (entries : List Entry) → slice_get numbers at ≡ Some number → slice_get act.outcomes at ≡ Some entries → LiesInItem items (image cube entries) number

-- from a cube a rule goes on to items: it is the first that holds, and the outcomes of its action lead into the items
pub record GoesOn (task : Task) (firsts : List First) (items : List Item) (cube : CubeView) (rule : ℕ) (numbers : List ℕ) : Type 0 where
  pub on : IsFirstOn firsts rule cube
  pub act : Act
  pub has_act : slice_get task.acts on.first.act ≡ Some act
  pub leads : LeadInto items act cube numbers

-- a way is sure from a cube
abbrev pub IsSureWay : Task → List First → List Item → CubeView → Way → Type 0
IsSureWay task firsts items cube Goal = value cube task.goal ≡ Yes
IsSureWay task firsts items cube (ByRule rule numbers) = GoesOn task firsts items cube rule numbers

-- an item is sure if its way is sure from its cube
abbrev pub IsSureItem : Task → List First → List Item → Item → Type 0
IsSureItem task firsts items item = IsSureWay task firsts items item.cube item.way

-- each item is sure
abbrev pub AreSureItems : Task → List First → List Item → Type 0
AreSureItems task firsts items = (number : ℕ) (item : Item) → slice_get items number ≡ Some item → IsSureItem task firsts items item

-- an item with another cube
abbrev pub with_cube : Item → CubeView → Item
with_cube item cube = record item { cube = cube }

-- items after the item of this number lost its literal of an atom
abbrev pub dropped : List Item → ℕ → Item → ℕ → List Item
dropped items number item atom = slice_set items number (with_cube item (without_literal item.cube atom))

-- the item of this number needs its literal of an atom, if it has one: without it, in the list too and with the other items as they
-- are, it is not sure
abbrev pub NeedsLiteral : Task → List First → List Item → ℕ → Item → ℕ → Type 0
NeedsLiteral task firsts items number item atom =
    (sign : Bool) → literal_at item.cube atom ≡ Some sign → ¬ IsSureWay task firsts (dropped items number item atom) (without_literal item.cube atom) item.way

-- the item of this number does not need its literal of an atom: it has one, and without it, in the list too and with the other
-- items as they are, it is sure
pub record IsSpare (task : Task) (firsts : List First) (items : List Item) (number : ℕ) (item : Item) (atom : ℕ) : Type 0 where
  pub sign : Bool
  pub has : literal_at item.cube atom ≡ Some sign
  pub sure : IsSureWay task firsts (dropped items number item atom) (without_literal item.cube atom) item.way

-- the item of this number is lean: it is sure, and needs each of its literals
pub record IsLeanItem (task : Task) (firsts : List First) (items : List Item) (number : ℕ) (item : Item) : Type 0 where
  pub sure : IsSureItem task firsts items item
  pub needs : (atom : ℕ) → NeedsLiteral task firsts items number item atom

-- each item is lean
abbrev pub AreLeanItems : Task → List First → List Item → Type 0
AreLeanItems task firsts items = (number : ℕ) (item : Item) → slice_get items number ≡ Some item → IsLeanItem task firsts items number item

-- conditions are over this many atoms
abbrev pub AreFirstsOver : ℕ → List First → Type 0
AreFirstsOver atoms firsts = (number : ℕ) (first : First) → slice_get firsts number ≡ Some first → length first.cond ≡ atoms

-- conditions and actions belong to a task: the conditions are over its atoms, and it has the actions
abbrev pub Belong : Task → List First → Type 0
Belong task firsts = (number : ℕ) (first : First) → slice_get firsts number ≡ Some first → (length first.cond ≡ length task.atoms) × (first.act < length task.acts)

-- the cubes of items are over this many atoms
abbrev pub AreItemsOver : ℕ → List Item → Type 0
AreItemsOver atoms items = (number : ℕ) (item : Item) → slice_get items number ≡ Some item → length item.cube ≡ atoms
