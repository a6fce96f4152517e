-- The verdicts on certificates of a policy of least rank: the rank, or the first fault. Looked at in this order: layers, rules, items, the
-- start item, the ranks, the far lists, and whether the bounds meet.
use Rattle.std.specs.Prelude.{◌≡◌, ℕ, ◌<◌, List, [], Some, slice_get}
use Rattle.fond_task.specs.declared.task.Task.{Task}
use Rattle.fond_task.specs.declared.rule.Rule.{Rule}
use Rattle.fond_task.specs.Layers.{CubeView, AreSureLayers}
use Rattle.fond_layers.specs.declared.fault.Spot.{Spot}
use Rattle.fond_layers.specs.declared.fault.Spot.TheVariants.{Goal, NotSure}
use Rattle.fond_layers.specs.Far.{IsFarList, AreFarLists, IsFarSpot, list_before}
use Rattle.fond_policy.specs.declared.best.BestCert.{BestCert}
use Rattle.fond_policy.specs.declared.item.Item.{Item}
use Rattle.fond_policy.specs.Covers.{IsIn}
use Rattle.fond_policy.specs.Items.{firsts_of, AreSureItems}
use Rattle.fond_policy.specs.Parts.{AreSureRules, IsRightCover}
use Rattle.fond_check.specs.Verdicts.{IsFirstBadLayer, IsFirstBadRule, IsFirstBadItem}
use Rattle.fond_best.specs.Certificates.{IsRankedWay, AreRanked, BoundsMeet, IsRightBest}
use Rattle.fond_best.specs.declared.rated.Rated.{Rated}
use Rattle.fond_best.specs.declared.rated.Rated.TheVariants.{Least, LayerGoal, LayerAct, Rule as BadRule, Item as BadItem, Start as BadStart, Rank as BadRank, FarGoal, FarAct, Bound}

-- the item of this number is the first whose rank is not right
pub record IsFirstBadRank (task : Task) (rules : List Rule) (items : List Item) (ranks : List ℕ) (number : ℕ) : Type 0 where
  pub item : Item
  pub has_item : slice_get items number ≡ Some item
  pub rank : ℕ
  pub has_rank : slice_get ranks number ≡ Some rank
  pub bad : ¬ IsRankedWay task rules items ranks rank item.way
  pub first : (before : ℕ) (other : Item) (lower : ℕ) → before < number → slice_get items before ≡ Some other → slice_get ranks before ≡ Some lower → IsRankedWay task rules items ranks lower other.way

-- the list of this number is the first that is not far, and this is what is wrong with it
pub record IsFirstBadList (task : Task) (layers far : List (List CubeView)) (number : ℕ) (spot : Spot) : Type 0 where
  pub cubes : List CubeView
  pub has_cubes : slice_get far number ≡ Some cubes
  pub wrong : IsFarSpot task layers (list_before far number) cubes spot
  pub first : (before : ℕ) (other : List CubeView) → before < number → slice_get far before ≡ Some other → IsFarList task layers (list_before far before) other

-- the layers and the rules are sure, without pairs
pub record HasSureRules (task : Task) (cert : BestCert) : Type 0 where
  pub layers_sure : AreSureLayers task cert.layers
  pub rules_sure : AreSureRules task [] cert.rules

-- layers, rules and items are sure, without pairs, the start item exists, the initial state lies in its cube, and each rank is right
pub record IsRankedCover (task : Task) (cert : BestCert) : Type 0 where
  pub cover : IsRightCover task cert.layers [] cert.rules cert.items cert.start
  pub ranked : AreRanked task cert.rules cert.items cert.ranks

-- a verdict on a certificate: its rank if it is correct, or its first fault
abbrev pub IsRating : Task → BestCert → Rated → Type 0
IsRating task cert (Least rank) = IsRightBest task cert rank
IsRating task cert (LayerGoal layer cube) = IsFirstBadLayer task cert.layers layer (Goal cube)
IsRating task cert (LayerAct layer cube act) = IsFirstBadLayer task cert.layers layer (NotSure cube act)
IsRating task cert (BadRule number) = AreSureLayers task cert.layers × IsFirstBadRule task [] cert.rules number
IsRating task cert (BadItem number) = HasSureRules task cert × IsFirstBadItem task cert.rules cert.items number
IsRating task cert BadStart = HasSureRules task cert × AreSureItems task (firsts_of cert.rules) cert.items × (¬ IsIn cert.items cert.start task.init)
IsRating task cert (BadRank number) = IsRightCover task cert.layers [] cert.rules cert.items cert.start × IsFirstBadRank task cert.rules cert.items cert.ranks number
IsRating task cert (FarGoal list cube) = IsRankedCover task cert × IsFirstBadList task cert.layers cert.far list (Goal cube)
IsRating task cert (FarAct list cube act) = IsRankedCover task cert × IsFirstBadList task cert.layers cert.far list (NotSure cube act)
IsRating task cert Bound = IsRankedCover task cert × AreFarLists task cert.layers cert.far × ((rank : ℕ) → ¬ BoundsMeet task cert.ranks cert.start cert.far rank)
