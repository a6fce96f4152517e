-- The definitions of weak plans and of trees, in a setting.
use Rattle.std.specs.Prelude.{ℕ, List, Bool, Contains}
use Rattle.fond_task.specs.declared.rule.Pair.{Pair}
use Rattle.fond_task.specs.Layers.{IsSurePair}
use Rattle.fond_task.specs.declared.plan_step.PlanStep.{PlanStep}
use Rattle.fond_weak.specs.Trees.{IsTree, AreTried, IsOpened}
use Rattle.fond_weak.specs.Weak.{IsWeakPlan, IsFound}
use Rattle.fond_weak.specs.declared.setting.Setting.{Setting}
use Rattle.fond_weak.specs.declared.tree.Tree.{Tree}
use Rattle.fond_weak.specs.declared.weak.Weak.{Weak}

-- the pairs of a setting are sure
abbrev pub HasSurePairs : Setting → Type 0
HasSurePairs setting = (pair : Pair) → Contains setting.pairs.now pair → IsSurePair setting.task.now setting.layers.now pair

-- steps are a weak plan in a setting
abbrev pub IsPlanIn : Setting → List PlanStep → Type 0
IsPlanIn setting steps = IsWeakPlan setting.task.now setting.pairs.now setting.from.now steps

-- a tree is one of a setting: its states and links are a tree from the state of the setting
abbrev pub IsTreeIn : Setting → Tree → Type 0
IsTreeIn setting tree = IsTree setting.task.now setting.pairs.now setting.from.now tree.states tree.links.items

-- each action that is applicable in a state was tried there
abbrev pub AreTriedIn : Setting → List (List Bool) → List Bool → Type 0
AreTriedIn setting states state = AreTried setting.task.now setting.layers.now setting.pairs.now states state

-- a state is opened in a setting
abbrev pub IsOpenedIn : Setting → List (List Bool) → List Bool → Type 0
IsOpenedIn setting states state = IsOpened setting.task.now setting.layers.now setting.pairs.now states state

-- what is found out in a setting is right
abbrev pub IsFoundIn : Setting → ℕ → Weak → Type 0
IsFoundIn setting limit weak = IsFound setting.task.now setting.layers.now setting.pairs.now setting.from.now limit weak
