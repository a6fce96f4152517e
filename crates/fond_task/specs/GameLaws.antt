-- The laws of the game.
use Rattle.std.specs.Prelude.{ℕ, List, Bool}
use Rattle.fond_task.specs.declared.task.Task.{Task}
use Rattle.fond_task.specs.declared.rule.Pair.{Pair}
use Rattle.fond_task.specs.declared.rule.Rule.{Rule}
use Rattle.fond_task.specs.Policies.{Policy, Reach, selected}
use Rattle.fond_task.specs.Solutions.{IsSolution, IsSolvable}
use Rattle.fond_task.specs.Layers.{CubeView, AreSureLayers}
use Rattle.fond_task.specs.Certificates.{IsRightPolicy, LiesInLayers, IsRightRefusal}

-- the rules of a correct policy certificate are a solution
abbrev pub RanksExcludeTraps : Type 0
RanksExcludeTraps = (task : Task) (layers : List (List CubeView)) (pairs : List Pair) (rules : List Rule) (reach : ℕ) → IsRightPolicy task layers pairs rules reach → IsSolution task (selected rules)

-- a policy that reaches a state of one of the sure layers is no solution
abbrev pub LayersForce : Type 0
LayersForce = (task : Task) (layers : List (List CubeView)) (policy : Policy) (state : List Bool) → AreSureLayers task layers → Reach task policy state → LiesInLayers state layers → ¬ IsSolution task policy

-- a task with a correct refusal certificate is not solvable
abbrev pub RefusalsHold : Type 0
RefusalsHold = (task : Task) (layers : List (List CubeView)) → IsRightRefusal task layers → ¬ IsSolvable task
