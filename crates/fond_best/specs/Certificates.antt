-- Certificates of a policy of least rank: a cover whose items are ranked, which bounds the rank of the policy from above, and far
-- lists, which bound that of each solution from below.
use Rattle.std.specs.Prelude.{◌≡◌, ◌⊎◌, ℕ, suc, ◌<◌, List, [], Bool, true, false, Some, Contains, length, slice_get, ⊤}
use Rattle.fond_state.specs.Cubes.{LiesIn}
use Rattle.fond_task.specs.declared.task.Act.{Act}
use Rattle.fond_task.specs.declared.task.Task.{Task}
use Rattle.fond_task.specs.declared.rule.Rule.{Rule}
use Rattle.fond_task.specs.Layers.{CubeView}
use Rattle.fond_layers.specs.Far.{AreFarLists}
use Rattle.fond_policy.specs.declared.best.BestCert.{BestCert}
use Rattle.fond_policy.specs.declared.item.Item.{Item}
use Rattle.fond_policy.specs.declared.item.Way.{Way}
use Rattle.fond_policy.specs.declared.item.Way.TheVariants.{Goal, Rule as ByRule}
use Rattle.fond_policy.specs.Parts.{IsRightCover}

-- the item of this number is a goal item, or has a rank below this one
pub record IsNearer (items : List Item) (ranks : List ℕ) (bound number : ℕ) : Type 0 where
  pub item : Item
  pub numbered : slice_get items number ≡ Some item
  pub nearer : (item.way ≡ Goal) ⊎ ((rank : ℕ) × (slice_get ranks number ≡ Some rank) × (rank < bound))

-- this is a right rank for an item that goes on by this rule to the items of these numbers: it is at least 1; if the rule's action is
-- fair, some of these items is nearer; if it is unfair, each is
pub record IsRankedRule (task : Task) (rules : List Rule) (items : List Item) (ranks : List ℕ) (rank number : ℕ) (numbers : List ℕ) : Type 0 where
  pub some : 0 < rank
  pub rule : Rule
  pub has_rule : slice_get rules number ≡ Some rule
  pub act : Act
  pub has_act : slice_get task.acts rule.act ≡ Some act
  pub fair : act.unfair ≡ false → (other : ℕ) × Contains numbers other × IsNearer items ranks rank other
  pub unfair : act.unfair ≡ true → (other : ℕ) → Contains numbers other → IsNearer items ranks rank other

-- this is a right rank for an item with this way; nothing is asked of that of a goal item, which is 0 in a certificate of the task
abbrev pub IsRankedWay : Task → List Rule → List Item → List ℕ → ℕ → Way → Type 0
IsRankedWay task rules items ranks rank Goal = ⊤
IsRankedWay task rules items ranks rank (ByRule number numbers) = IsRankedRule task rules items ranks rank number numbers

-- there is a rank for each item, and each is right
pub record AreRanked (task : Task) (rules : List Rule) (items : List Item) (ranks : List ℕ) : Type 0 where
  pub counted : length ranks ≡ length items
  pub each : (number : ℕ) (item : Item) (rank : ℕ) → slice_get items number ≡ Some item → slice_get ranks number ≡ Some rank → IsRankedWay task rules items ranks rank item.way

-- a state lies in a cube of the last list
pub record IsInLast (state : List Bool) (lists : List (List CubeView)) : Type 0 where
  pub number : ℕ
  pub is_last : suc number ≡ length lists
  pub cubes : List CubeView
  pub numbered : slice_get lists number ≡ Some cubes
  pub cube : CubeView
  pub has : Contains cubes cube
  pub lies : LiesIn state cube

-- the bounds meet: the start item has this rank, there are as many far lists, and if there is one, the initial state lies in the last
pub record BoundsMeet (task : Task) (ranks : List ℕ) (start : ℕ) (far : List (List CubeView)) (rank : ℕ) : Type 0 where
  pub starts : slice_get ranks start ≡ Some rank
  pub counted : length far ≡ rank
  pub reached : 0 < rank → IsInLast task.init far

-- a certificate is correct with a rank: its layers, rules and items are sure, without pairs; its start item exists and the
-- initial state lies in its cube; the ranks are right, its far lists are far, and its bounds meet at the rank
pub record IsRightBest (task : Task) (cert : BestCert) (rank : ℕ) : Type 0 where
  pub cover : IsRightCover task cert.layers [] cert.rules cert.items cert.start
  pub ranked : AreRanked task cert.rules cert.items cert.ranks
  pub lists_far : AreFarLists task cert.layers cert.far
  pub met : BoundsMeet task cert.ranks cert.start cert.far rank
