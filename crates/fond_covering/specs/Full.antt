-- Items of which each has the full cube of a state.
use Rattle.std.specs.Prelude.{◌≡◌, ℕ, List, Bool, Some, length, slice_get}
use Rattle.fond_state.specs.Cubes.{full_cube}
use Rattle.fond_task.specs.declared.task.Act.{Act}
use Rattle.fond_task.specs.declared.task.Entry.{Entry}
use Rattle.fond_task.specs.declared.task.Task.{Task}
use Rattle.fond_task.specs.Steps.{next_state}
use Rattle.fond_task.specs.declared.rule.Rule.{Rule}
use Rattle.fond_task.specs.Policies.{IsGoal}
use Rattle.fond_rules.specs.Select.{selected_rule}
use Rattle.fond_policy.specs.declared.item.Item.{Item}
use Rattle.fond_policy.specs.declared.item.Way.{Way}
use Rattle.fond_policy.specs.declared.item.Way.TheVariants.{Goal, Rule as ByRule}

-- numbers are those of the states after the outcomes of an action from a state, in order
pub record AreNextNumbers (states : List (List Bool)) (state : List Bool) (act : Act) (numbers : List ℕ) : Type 0 where
  pub counted : length numbers ≡ length act.outcomes
  pub each : (at number : ℕ) (entries : List Entry) → slice_get numbers at ≡ Some number → slice_get act.outcomes at ≡ Some entries → slice_get states number ≡ Some (next_state state entries)

-- the rule that is selected in a state goes on from it to the states of these numbers
pub record GoesFrom (task : Task) (rules : List Rule) (states : List (List Bool)) (state : List Bool) (rule : ℕ) (numbers : List ℕ) : Type 0 where
  pub chosen : selected_rule rules state ≡ Some rule
  pub own : Rule
  pub numbered : slice_get rules rule ≡ Some own
  pub act : Act
  pub has_act : slice_get task.acts own.act ≡ Some act
  pub next : AreNextNumbers states state act numbers

-- how a policy goes on from a state: it is a goal, or the way is that of the rule which is selected in it
abbrev pub IsFullWay : Task → List Rule → List (List Bool) → List Bool → Way → Type 0
IsFullWay task rules states state Goal = IsGoal task state
IsFullWay task rules states state (ByRule rule numbers) = GoesFrom task rules states state rule numbers

-- an item has the full cube of a state, and goes on as the policy does
pub record IsFullItem (task : Task) (rules : List Rule) (states : List (List Bool)) (state : List Bool) (item : Item) : Type 0 where
  pub cube : item.cube ≡ full_cube state
  pub way : IsFullWay task rules states state item.way

-- each item is that of the state of its number
abbrev pub AreFullItems : Task → List Rule → List (List Bool) → List Item → Type 0
AreFullItems task rules states items =
    (number : ℕ) (item : Item) → slice_get items number ≡ Some item → (state : List Bool) × (slice_get states number ≡ Some state) × IsFullItem task rules states state item
