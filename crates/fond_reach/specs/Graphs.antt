-- What a policy reaches in a ground task, as a graph of states.
use Rattle.std.specs.Prelude.{◌≡◌, ℕ, List, [], Bool, Some, IsTrue, length, slice_get, Contains}
use Rattle.std.specs.List.{AllZip, flat_map}
use Rattle.fond_text.specs.Lists.{AreDistinct}
use Rattle.fond_games.specs.Renaming.{FirstUsed}
use Rattle.fond_task.specs.declared.task.Act.{Act}
use Rattle.fond_task.specs.declared.task.Entry.{Entry}
use Rattle.fond_task.specs.declared.task.Task.{Task}
use Rattle.fond_task.specs.Policies.{IsApplicable, IsGoal, Policy, Reach}
use Rattle.fond_task.specs.Steps.{next_state}
use Rattle.fond_task.specs.Truth.{is_true}
use Rattle.fond_reach.specs.declared.node.Node.{Node}
use Rattle.fond_reach.specs.declared.node.Node.TheVariants.{Goal, Stuck, Acts}

-- an outcome leads from a state to the state of this number
abbrev pub Leads : List (List Bool) → List Bool → List Entry → ℕ → Type 0
Leads states state outcome number = slice_get states number ≡ Some (next_state state outcome)

-- the outcomes of an action that is applicable in a state lead to the states of these numbers, outcome by outcome
pub record LeadsEach (task : Task) (states : List (List Bool)) (state : List Bool) (number : ℕ) (nexts : List ℕ) : Type 0 where
  pub act : Act
  pub numbered : slice_get task.acts number ≡ Some act
  pub holds : IsTrue (is_true state act.pre)
  pub each : AllZip (Leads states state) act.outcomes nexts

-- the node of a state: `Goal` if it is a goal; otherwise `Stuck` if the policy gives no action, or one that is not applicable there;
-- otherwise `Acts`, with the action and, for each of its outcomes in order, the number of the state to which it leads
abbrev pub IsNode : Task → Policy → List (List Bool) → List Bool → Node → Type 0
IsNode task policy states state Goal = IsGoal task state
IsNode task policy states state Stuck = (¬ IsGoal task state) × ((number : ℕ) → policy state ≡ Some number → ¬ IsApplicable task state number)
IsNode task policy states state (Acts number nexts) = (¬ IsGoal task state) × (policy state ≡ Some number) × LeadsEach task states state number nexts

-- the states to which the outcomes of a node lead, by their numbers; there are none at a goal or where the policy is stuck
abbrev pub numbers_after : Node → List ℕ
numbers_after (Acts number nexts) = nexts
numbers_after node = []

-- a graph is that of a policy: its states are those that the policy reaches, each once: the initial one first, and the others in the order
-- in which the outcomes, node by node, first lead to them; and each has its node
pub record IsGraph (task : Task) (policy : Policy) (states : List (List Bool)) (nodes : List Node) : Type 0 where
  pub first : slice_get states 0 ≡ Some task.init
  pub once : AreDistinct states
  pub reached : (state : List Bool) → Contains states state → Reach task policy state
  pub all : (state : List Bool) → Reach task policy state → Contains states state
  pub told : AllZip (IsNode task policy states) states nodes
  pub ordered : FirstUsed 1 (flat_map numbers_after nodes) (length states)
