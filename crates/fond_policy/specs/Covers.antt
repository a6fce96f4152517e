-- Items that cover the states that a policy reaches.
use Rattle.std.specs.Prelude.{◌≡◌, ℕ, List, Bool, Some, slice_get}
use Rattle.fond_state.specs.Cubes.{LiesIn}
use Rattle.fond_task.specs.declared.task.Task.{Task}
use Rattle.fond_task.specs.declared.rule.Rule.{Rule}
use Rattle.fond_task.specs.Policies.{Reach, selected}
use Rattle.fond_policy.specs.declared.item.Item.{Item}
use Rattle.fond_policy.specs.Items.{firsts_of, AreSureItems}

-- a state lies in the cube of the item of this number
pub record IsIn (items : List Item) (number : ℕ) (state : List Bool) : Type 0 where
  pub item : Item
  pub numbered : slice_get items number ≡ Some item
  pub lies : LiesIn state item.cube

-- a state lies in the cube of some item
abbrev pub IsInSome : List Item → List Bool → Type 0
IsInSome items state = (number : ℕ) × IsIn items number state

-- sure items are closed: if the initial state lies in one, each state that the rules reach lies in one
abbrev pub ItemsAreClosed : Type 0
ItemsAreClosed = (task : Task) (rules : List Rule) (items : List Item) (start : ℕ) (state : List Bool) →
    AreSureItems task (firsts_of rules) items → IsIn items start task.init → Reach task (selected rules) state → IsInSome items state
