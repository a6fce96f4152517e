-- Which parts of a certificate are sure and lean, and when a certificate is correct.
use Rattle.std.specs.Prelude.{◌≡◌, ◌<◌, ℕ, List, Some, slice_get, Contains}
use Rattle.fond_task.specs.declared.task.Task.{Task}
use Rattle.fond_task.specs.declared.rule.Pair.{Pair}
use Rattle.fond_task.specs.declared.rule.Rule.{Rule}
use Rattle.fond_task.specs.Layers.{CubeView, AreSureLayers, IsSurePair}
use Rattle.fond_task.specs.Rules.{IsSureRule, IsLeanRule, IsLeanPair}
use Rattle.fond_task.specs.Certificates.{IsRightPolicy, IsRightRefusal}
use Rattle.fond_policy.specs.declared.item.Item.{Item}
use Rattle.fond_policy.specs.Covers.{IsIn}
use Rattle.fond_policy.specs.Items.{firsts_of, AreSureItems, AreLeanItems}
use Rattle.fond_policy.specs.declared.cert.Cert.{Cert}
use Rattle.fond_policy.specs.declared.cert.Cert.TheVariants.{Policy, Refusal, Covered}

-- pairs are sure
abbrev pub AreSurePairs : Task → List (List CubeView) → List Pair → Type 0
AreSurePairs task layers pairs = (pair : Pair) → Contains pairs pair → IsSurePair task layers pair

-- the first rules, this many, are sure, each at its number
abbrev pub AreSureBefore : Task → List Pair → List Rule → ℕ → Type 0
AreSureBefore task pairs rules count = (number : ℕ) (rule : Rule) → number < count → slice_get rules number ≡ Some rule → IsSureRule task pairs rules number rule

-- rules are sure, each at its number
abbrev pub AreSureRules : Task → List Pair → List Rule → Type 0
AreSureRules task pairs rules = (number : ℕ) (rule : Rule) → slice_get rules number ≡ Some rule → IsSureRule task pairs rules number rule

-- the layers, the pairs and the rules are sure
pub record ArePartsSure (task : Task) (layers : List (List CubeView)) (pairs : List Pair) (rules : List Rule) : Type 0 where
  pub layers_sure : AreSureLayers task layers
  pub pairs_sure : AreSurePairs task layers pairs
  pub rules_sure : AreSureRules task pairs rules

-- all pairs and rules are lean
pub record AreLean (task : Task) (layers : List (List CubeView)) (pairs : List Pair) (rules : List Rule) : Type 0 where
  pub pairs_lean : (pair : Pair) → Contains pairs pair → IsLeanPair task layers pair
  pub rules_lean : (number : ℕ) (rule : Rule) → slice_get rules number ≡ Some rule → IsLeanRule task pairs rules number rule

-- all pairs, rules and items are lean
pub record AreAllLean (task : Task) (layers : List (List CubeView)) (pairs : List Pair) (rules : List Rule) (items : List Item) : Type 0 where
  pub lean : AreLean task layers pairs rules
  pub items_lean : AreLeanItems task (firsts_of rules) items

-- a policy certificate with a cover is correct if its layers, pairs, rules and items are sure, its start item exists, and
-- the initial state lies in the cube of that item
pub record IsRightCover (task : Task) (layers : List (List CubeView)) (pairs : List Pair) (rules : List Rule) (items : List Item) (start : ℕ) : Type 0 where
  pub sure : ArePartsSure task layers pairs rules
  pub items_sure : AreSureItems task (firsts_of rules) items
  pub starts : IsIn items start task.init

-- a certificate is correct
abbrev pub IsRight : Task → Cert → Type 0
IsRight task (Policy layers pairs rules reach) = IsRightPolicy task layers pairs rules reach
IsRight task (Refusal layers) = IsRightRefusal task layers
IsRight task (Covered layers pairs rules items start) = IsRightCover task layers pairs rules items start
