-- Covers that are found for policies.
use Rattle.std.specs.Prelude.{◌≡◌, ℕ, ◌<◌, ◌^◌, List, All, length}
use Rattle.fond_task.specs.declared.task.Task.{Task}
use Rattle.fond_task.specs.declared.rule.Rule.{Rule}
use Rattle.fond_policy.specs.declared.item.Item.{Item}
use Rattle.fond_policy.specs.Covers.{IsIn}
use Rattle.fond_policy.specs.Items.{firsts_of, AreItemsOver, AreLeanItems, AreSureItems}
use Rattle.fond_policy.specs.Belongs.{Belongs, BelongAsItems}
use Rattle.fond_policy.specs.Sizes.{HasSmallNumbers, IsSmallWay}
use Rattle.fond_task.specs.Certificates.{IsRightPolicy}
use Rattle.fond_policy.specs.declared.cert.Cert.{Cert}
use Rattle.fond_policy.specs.declared.cert.Cert.TheVariants.{Policy, Covered}

-- items cover what rules reach, from a start item: they belong to the task, their numbers are below 2^32, they are lean, and the
-- initial state lies in the cube of the start item
pub record IsCovering (task : Task) (rules : List Rule) (items : List Item) (start : ℕ) : Type 0 where
  pub belong : BelongAsItems task items
  pub small : All (λ item. IsSmallWay item.way) items
  pub small_start : start < 2 ^ 32
  pub lean : AreLeanItems task (firsts_of rules) items
  pub starts : IsIn items start task.init

-- items cover what rules reach, from a start item, but need not be lean: there are fewer than 2^32, their cubes are over the
-- atoms of the task, they are sure, and the initial state lies in the cube of the start item
pub record IsSureCovering (task : Task) (rules : List Rule) (items : List Item) (start : ℕ) : Type 0 where
  pub few : length items < 2 ^ 32
  pub over : AreItemsOver (length task.atoms) items
  pub sure : AreSureItems task (firsts_of rules) items
  pub starts : IsIn items start task.init

-- a policy certificate with a reach number may be given a cover: it belongs to the task, its numbers fit their types, it is
-- correct, and it reaches fewer than 2^32 states
abbrev pub MayBeCovered : Task → Cert → Type 0
MayBeCovered task (Policy layers pairs rules reach) =
    Belongs task (Policy layers pairs rules reach) × HasSmallNumbers (Policy layers pairs rules reach) × IsRightPolicy task layers pairs rules reach × (reach < 2 ^ 32)
MayBeCovered task cert = ⊥

-- a certificate is a policy with its reach number replaced by a cover: its layers, pairs and rules are the same
abbrev pub IsCoverOf : Task → Cert → Cert → Type 0
IsCoverOf task (Policy layers pairs rules reach) cert =
    (items : List Item) × (start : ℕ) × (cert ≡ Covered layers pairs rules items start) × IsCovering task rules items start
IsCoverOf task other cert = ⊥
