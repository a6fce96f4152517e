-- Policies in the making: layers, pairs that lead into them, and rules.
use Rattle.std.specs.Prelude.{◌≡◌, ◌++◌, ℕ, List, Bool, Some, length, slice_get, Contains}
use Rattle.fond_task.specs.declared.task.Task.{Task}
use Rattle.fond_task.specs.Layers.{CubeView, AreSureLayers}
use Rattle.fond_task.specs.Rules.{IsLeanPair, IsLeanRule}
use Rattle.fond_task.specs.declared.rule.Pair.{Pair}
use Rattle.fond_task.specs.declared.rule.Rule.{Rule}
use Rattle.fond_layers.specs.Over.{AreOver}
use Rattle.fond_rules.specs.Belongs.{BelongTo}
use Rattle.fond_policy.specs.Sizes.{IsSmallPair}
use Rattle.fond_draft.specs.Barring.{EachBarsMore}
use Rattle.fond_draft.specs.Targets.{HasRule}
use Rattle.fond_draft.specs.declared.draft.Draft.{Draft}

-- a pair fits some layers: it is over the atoms of the task, it is lean beside the layers, and its numbers fit their types
pub record IsFitting (task : Task) (layers : List (List CubeView)) (pair : Pair) : Type 0 where
  pub over : length pair.cond ≡ length task.atoms
  pub lean : IsLeanPair task layers pair
  pub small : IsSmallPair pair

-- pairs fit some layers
abbrev pub AreFitting : Task → List (List CubeView) → List Pair → Type 0
AreFitting task layers pairs = (pair : Pair) → Contains pairs pair → IsFitting task layers pair

-- rules belong to a task, and each is lean beside the pairs and after the rules before it
pub record AreLeanRules (task : Task) (pairs : List Pair) (rules : List Rule) : Type 0 where
  pub belong : BelongTo task rules
  pub lean : (number : ℕ) (rule : Rule) → slice_get rules number ≡ Some rule → IsLeanRule task pairs rules number rule

-- a draft is one of a task: its layers are sure, its pairs fit them, and so do the fresh ones, of all of which each bars more than
-- those before it, and its rules are lean beside its pairs
pub record IsDraft (task : Task) (draft : Draft) : Type 0 where
  pub over : AreOver (length task.atoms) draft.layers
  pub sure : AreSureLayers task draft.layers
  pub pairs : AreFitting task draft.layers draft.pairs
  pub fresh : AreFitting task draft.layers draft.fresh.items
  pub more : EachBarsMore task (draft.pairs ++ draft.fresh.items)
  pub rules : AreLeanRules task draft.pairs draft.rules

-- a draft has become another one of the task, in which a rule holds in a state, and in each state in which one held
pub record IsRuledIn (task : Task) (state : List Bool) (before after : Draft) : Type 0 where
  pub has : HasRule after.rules state
  pub kept : (other : List Bool) → HasRule before.rules other → HasRule after.rules other
  pub draft : IsDraft task after
