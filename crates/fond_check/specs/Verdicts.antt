-- The checker's verdicts: that a certificate is correct, or its first fault. Layers are looked at before pairs, and pairs before
-- rules. Then come the number of reached states and the rules of reached states, or the items and the start item.
use Rattle.std.specs.Prelude.{◌≡◌, ℕ, ◌<◌, List, true, Some, take, slice_get, Decides}
use Rattle.fond_task.specs.declared.task.Task.{Task}
use Rattle.fond_task.specs.declared.rule.Pair.{Pair}
use Rattle.fond_task.specs.declared.rule.Rule.{Rule}
use Rattle.fond_task.specs.Policies.{selected}
use Rattle.fond_task.specs.Layers.{CubeView, AreSureLayers, IsSurePair}
use Rattle.fond_task.specs.Rules.{IsSureRule}
use Rattle.fond_task.specs.Certificates.{ReachesCount, IsRightPolicy, LiesInLayers, IsRightRefusal}
use Rattle.fond_layers.specs.Faults.{IsSpot}
use Rattle.fond_layers.specs.declared.fault.Spot.{Spot}
use Rattle.fond_layers.specs.declared.fault.Spot.TheVariants.{Goal, NotSure}
use Rattle.fond_policy.specs.Counts.{IsMiscounted, IsUnruled}
use Rattle.fond_policy.specs.declared.item.Item.{Item}
use Rattle.fond_policy.specs.Covers.{IsIn}
use Rattle.fond_policy.specs.Items.{firsts_of, IsSureItem, AreSureItems}
use Rattle.fond_policy.specs.Parts.{AreSurePairs, AreSureBefore, ArePartsSure, AreLean, AreAllLean, IsRightCover}
use Rattle.fond_policy.specs.declared.cert.Cert.{Cert}
use Rattle.fond_policy.specs.declared.cert.Cert.TheVariants.{Policy as PolicyCert, Refusal as RefusalCert, Covered as CoveredCert}
use Rattle.fond_check.specs.declared.verdict.Verdict.{Verdict}
use Rattle.fond_check.specs.declared.verdict.Verdict.TheVariants.{Accepted, Rule as BadRule, Pair as BadPair, LayerGoal, LayerAct, NoRule, Count, Outside, Item as BadItem, Start as BadStart}

-- the layer of this number is the first that is not sure above those before it, and this is what is wrong with it
pub record IsFirstBadLayer (task : Task) (layers : List (List CubeView)) (number : ℕ) (spot : Spot) : Type 0 where
  pub layer : List CubeView
  pub has_layer : slice_get layers number ≡ Some layer
  pub wrong : IsSpot task (take number layers) layer spot
  pub first : AreSureLayers task (take number layers)

-- the verdict of what is wrong with the layer of this number
abbrev pub of_spot : ℕ → Spot → Verdict
of_spot layer (Goal cube) = LayerGoal layer cube
of_spot layer (NotSure cube act) = LayerAct layer cube act

-- the pair of this number is the first that is not sure
pub record IsFirstBadPair (task : Task) (layers : List (List CubeView)) (pairs : List Pair) (number : ℕ) : Type 0 where
  pub pair : Pair
  pub has_pair : slice_get pairs number ≡ Some pair
  pub bad : ¬ IsSurePair task layers pair
  pub first : AreSurePairs task layers (take number pairs)

-- the rule of this number is the first that is not sure
pub record IsFirstBadRule (task : Task) (pairs : List Pair) (rules : List Rule) (number : ℕ) : Type 0 where
  pub rule : Rule
  pub has_rule : slice_get rules number ≡ Some rule
  pub bad : ¬ IsSureRule task pairs rules number rule
  pub first : AreSureBefore task pairs rules number

-- the item of this number is the first that is not sure
pub record IsFirstBadItem (task : Task) (rules : List Rule) (items : List Item) (number : ℕ) : Type 0 where
  pub item : Item
  pub has_item : slice_get items number ≡ Some item
  pub bad : ¬ IsSureItem task (firsts_of rules) items item
  pub first : (before : ℕ) (other : Item) → before < number → slice_get items before ≡ Some other → IsSureItem task (firsts_of rules) items other

-- a verdict that a layer, a pair or a rule is not sure
abbrev pub IsPartFault : Task → List (List CubeView) → List Pair → List Rule → Verdict → Type 0
IsPartFault task layers pairs rules (LayerGoal layer cube) = IsFirstBadLayer task layers layer (Goal cube)
IsPartFault task layers pairs rules (LayerAct layer cube act) = IsFirstBadLayer task layers layer (NotSure cube act)
IsPartFault task layers pairs rules (BadPair number) = AreSureLayers task layers × IsFirstBadPair task layers pairs number
IsPartFault task layers pairs rules (BadRule number) = AreSureLayers task layers × AreSurePairs task layers pairs × IsFirstBadRule task pairs rules number
IsPartFault task layers pairs rules verdict = ⊥

-- a verdict on a policy certificate with a reach number
abbrev pub IsPolicyVerdict : Task → List (List CubeView) → List Pair → List Rule → ℕ → Verdict → Type 0
IsPolicyVerdict task layers pairs rules reach (Count more) = ArePartsSure task layers pairs rules × IsMiscounted task (selected rules) reach more
IsPolicyVerdict task layers pairs rules reach (NoRule state) = ArePartsSure task layers pairs rules × ReachesCount task (selected rules) reach × IsUnruled task rules state
IsPolicyVerdict task layers pairs rules reach (Accepted lean) = IsRightPolicy task layers pairs rules reach × Decides lean (AreLean task layers pairs rules)
IsPolicyVerdict task layers pairs rules reach verdict = IsPartFault task layers pairs rules verdict

-- a verdict on a policy certificate with a cover
abbrev pub IsCoverVerdict : Task → List (List CubeView) → List Pair → List Rule → List Item → ℕ → Verdict → Type 0
IsCoverVerdict task layers pairs rules items start (BadItem number) = ArePartsSure task layers pairs rules × IsFirstBadItem task rules items number
IsCoverVerdict task layers pairs rules items start BadStart =
    ArePartsSure task layers pairs rules × AreSureItems task (firsts_of rules) items × (¬ IsIn items start task.init)
IsCoverVerdict task layers pairs rules items start (Accepted lean) =
    IsRightCover task layers pairs rules items start × Decides lean (AreAllLean task layers pairs rules items)
IsCoverVerdict task layers pairs rules items start verdict = IsPartFault task layers pairs rules verdict

-- a verdict on a refusal certificate
abbrev pub IsRefusalVerdict : Task → List (List CubeView) → Verdict → Type 0
IsRefusalVerdict task layers (LayerGoal layer cube) = IsFirstBadLayer task layers layer (Goal cube)
IsRefusalVerdict task layers (LayerAct layer cube act) = IsFirstBadLayer task layers layer (NotSure cube act)
IsRefusalVerdict task layers Outside = AreSureLayers task layers × (¬ LiesInLayers task.init layers)
IsRefusalVerdict task layers (Accepted lean) = IsRightRefusal task layers × (lean ≡ true)
IsRefusalVerdict task layers verdict = ⊥

-- a verdict on a certificate
abbrev pub IsVerdict : Task → Cert → Verdict → Type 0
IsVerdict task (PolicyCert layers pairs rules reach) verdict = IsPolicyVerdict task layers pairs rules reach verdict
IsVerdict task (RefusalCert layers) verdict = IsRefusalVerdict task layers verdict
IsVerdict task (CoveredCert layers pairs rules items start) verdict = IsCoverVerdict task layers pairs rules items start verdict
