-- Conditions of pairs, by their actions.
use Rattle.std.specs.Prelude.{◌≡◌, ℕ, ◌<◌, List, [], Option, Some, None, length, nat_eq, slice_index_or, Contains}
use Rattle.std.specs.HashMap.{get}
use Rattle.fond_task.specs.declared.rule.Pair.{Pair}
use Rattle.fond_task.specs.Layers.{CubeView}
use Rattle.fond_rules.specs.declared.groups.Groups.{Groups}

-- the list of a number, if there is one, or else no cubes
abbrev pub list_at : List (List CubeView) → Option ℕ → List CubeView
list_at lists None = []
list_at lists (Some number) = slice_index_or lists number []

-- the cubes of an action
abbrev pub cubes_of : Groups → ℕ → List CubeView
cubes_of groups act = list_at groups.lists.items (get nat_eq groups.numbers act)

-- each action that has a number has a list, and no other action has the same list
pub record AreNumbered (lists : List (List CubeView)) (numbers : ℕ → Option ℕ) : Type 0 where
  pub there : (act number : ℕ) → numbers act ≡ Some number → number < length lists
  pub own : (act other number : ℕ) → numbers act ≡ Some number → numbers other ≡ Some number → act ≡ other

-- no two actions have the same list
abbrev pub AreApart : Groups → Type 0
AreApart groups = AreNumbered groups.lists.items (get nat_eq groups.numbers)

-- cubes are the conditions of the pairs of an action
pub record AreConditionsOf (pairs : List Pair) (act : ℕ) (cubes : List CubeView) : Type 0 where
  pub complete : (pair : Pair) → Contains pairs pair → pair.act ≡ act → Contains cubes pair.cond
  pub within : (cube : CubeView) → Contains cubes cube → (pair : Pair) × Contains pairs pair × (pair.act ≡ act) × (pair.cond ≡ cube)

-- the conditions of pairs are grouped by the actions
abbrev pub AreGrouped : List Pair → Groups → Type 0
AreGrouped pairs groups = AreApart groups × ((act : ℕ) → AreConditionsOf pairs act (cubes_of groups act))
