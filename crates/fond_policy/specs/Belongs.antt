-- Certificates that belong to a task.
use Rattle.std.specs.Prelude.{◌≡◌, ℕ, ◌<◌, ◌^◌, List, All, Some, length, slice_get, ⊤}
use Rattle.fond_task.specs.declared.task.Task.{Task}
use Rattle.fond_task.specs.declared.rule.Pair.{Pair}
use Rattle.fond_task.specs.declared.rule.Rule.{Rule}
use Rattle.fond_task.specs.Layers.{CubeView}
use Rattle.fond_layers.specs.Over.{AreOver}
use Rattle.fond_rules.specs.Belongs.{ArePairsOver, BelongTo, HaveTargets}
use Rattle.fond_policy.specs.declared.item.Item.{Item}
use Rattle.fond_policy.specs.declared.item.Way.{Way}
use Rattle.fond_policy.specs.declared.item.Way.TheVariants.{Goal, Rule as ByRule}
use Rattle.fond_policy.specs.Items.{AreItemsOver}
use Rattle.fond_policy.specs.declared.best.BestCert.{BestCert}
use Rattle.fond_policy.specs.declared.cert.Cert.{Cert}
use Rattle.fond_policy.specs.declared.cert.Cert.TheVariants.{Policy, Refusal, Covered}

-- layers belong to a task: there are fewer than 2^32, each has fewer than 2^32 cubes, and these are over its atoms
pub record BelongAsLayers (task : Task) (layers : List (List CubeView)) : Type 0 where
  pub few : length layers < 2 ^ 32
  pub few_cubes : All (λ layer. length layer < 2 ^ 32) layers
  pub over : AreOver (length task.atoms) layers

-- pairs belong to a task: their cubes are over its atoms, and it has their actions
pub record BelongAsPairs (task : Task) (pairs : List Pair) : Type 0 where
  pub over : ArePairsOver (length task.atoms) pairs
  pub there : All (λ pair. pair.act < length task.acts) pairs

-- rules belong to a task: there are fewer than 2^32, their conditions are over its atoms, it has their actions, and each has
-- a target
pub record BelongAsRules (task : Task) (rules : List Rule) : Type 0 where
  pub few : length rules < 2 ^ 32
  pub belong : BelongTo task rules
  pub targeted : HaveTargets rules

-- a way by a rule has an item number
abbrev pub HasNumber : Way → Type 0
HasNumber Goal = ⊤
HasNumber (ByRule rule numbers) = 0 < length numbers

-- items belong to a task: there are fewer than 2^32, their cubes are over its atoms, and each way by a rule has an item
-- number
pub record BelongAsItems (task : Task) (items : List Item) : Type 0 where
  pub few : length items < 2 ^ 32
  pub over : AreItemsOver (length task.atoms) items
  pub numbered : All (λ item. HasNumber item.way) items

-- a certificate belongs to a task if its parts do
abbrev pub Belongs : Task → Cert → Type 0
Belongs task (Policy layers pairs rules reach) = BelongAsLayers task layers × BelongAsPairs task pairs × BelongAsRules task rules
Belongs task (Refusal layers) = BelongAsLayers task layers
Belongs task (Covered layers pairs rules items start) =
    BelongAsLayers task layers × BelongAsPairs task pairs × BelongAsRules task rules × BelongAsItems task items

-- a certificate of least rank belongs to a task if its parts do, there is a rank for each item, and goal items have rank 0
pub record BelongsAsBest (task : Task) (cert : BestCert) : Type 0 where
  pub as_layers : BelongAsLayers task cert.layers
  pub as_rules : BelongAsRules task cert.rules
  pub as_items : BelongAsItems task cert.items
  pub counted : length cert.ranks ≡ length cert.items
  pub goals : (number : ℕ) (item : Item) (rank : ℕ) → slice_get cert.items number ≡ Some item → item.way ≡ Goal → slice_get cert.ranks number ≡ Some rank → rank ≡ 0
  pub as_lists : BelongAsLayers task cert.far
