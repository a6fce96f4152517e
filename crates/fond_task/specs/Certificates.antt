-- Right certificates of policies and of unsolvability.
use Rattle.std.specs.Prelude.{◌≡◌, ℕ, List, Bool, Some, slice_get, Contains, IsSome}
use Rattle.fond_state.specs.Games as games
use Rattle.fond_state.specs.Cubes.{LiesIn}
use Rattle.fond_task.specs.declared.task.Task.{Task}
use Rattle.fond_task.specs.declared.rule.Pair.{Pair}
use Rattle.fond_task.specs.declared.rule.Rule.{Rule}
use Rattle.fond_task.specs.Policies.{IsGoal, Policy, Reach, game, selected}
use Rattle.fond_task.specs.Layers.{CubeView, AreSureLayers, IsSurePair}
use Rattle.fond_task.specs.Rules.{IsSureRule}

-- a policy reaches this many states: a list of that length has each reached state once, and no other
abbrev pub ReachesCount : Task → Policy → ℕ → Type 0
ReachesCount task = games.ReachesCount (game task)

-- a policy certificate is correct if its layers, pairs and rules are sure, each reached state that is no goal has a
-- rule, and its number is that of the reached states
pub record IsRightPolicy (task : Task) (layers : List (List CubeView)) (pairs : List Pair) (rules : List Rule) (reach : ℕ) : Type 0 where
  pub layers_sure : AreSureLayers task layers
  pub pairs_sure : (pair : Pair) → Contains pairs pair → IsSurePair task layers pair
  pub rules_sure : (number : ℕ) (rule : Rule) → slice_get rules number ≡ Some rule → IsSureRule task pairs rules number rule
  pub ruled : (state : List Bool) → Reach task (selected rules) state → ¬ IsGoal task state → IsSome (selected rules state)
  pub counted : ReachesCount task (selected rules) reach

-- a state lies in a cube of one of the layers
pub record LiesInLayers (state : List Bool) (layers : List (List CubeView)) : Type 0 where
  pub layer : List CubeView
  pub one : Contains layers layer
  pub cube : CubeView
  pub has : Contains layer cube
  pub lies : LiesIn state cube

-- a refusal certificate is correct if its layers are sure and the initial state lies in one of them
pub record IsRightRefusal (task : Task) (layers : List (List CubeView)) : Type 0 where
  pub layers_sure : AreSureLayers task layers
  pub start : LiesInLayers task.init layers
