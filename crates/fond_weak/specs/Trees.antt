-- The states that a search has found from a state.
use Rattle.std.specs.Prelude.{◌≡◌, ◌⊎◌, ◌<◌, ℕ, List, ◌++◌, Bool, IsTrue, Option, Some, None, length, slice_get, Contains}
use Rattle.fond_task.specs.declared.task.Act.{Act}
use Rattle.fond_task.specs.declared.task.Entry.{Entry}
use Rattle.fond_task.specs.declared.task.Task.{Task}
use Rattle.fond_task.specs.Steps.{next_state}
use Rattle.fond_task.specs.Truth.{is_true}
use Rattle.fond_task.specs.declared.rule.Pair.{Pair}
use Rattle.fond_task.specs.Certificates.{LiesInLayers}
use Rattle.fond_task.specs.Layers.{CubeView}
use Rattle.fond_task.specs.Policies.{IsGoal}
use Rattle.fond_explicit.specs.Answers.{IsReachable}
use Rattle.fond_regress.specs.Barred.{IsBarred}
use Rattle.fond_weak.specs.Weak.{MayTake}
use Rattle.fond_weak.specs.declared.tree.Link.{Link}

-- a link leads to a state: its step may be taken in one of the first states, which is no goal, and leads from there to the state
pub record LeadsTo (task : Task) (pairs : List Pair) (states : List (List Bool)) (first : ℕ) (link : Link) (state : List Bool) : Type 0 where
  pub earlier : link.from < first
  pub before : List Bool
  pub has_before : slice_get states link.from ≡ Some before
  pub open_ : ¬ IsGoal task before
  pub taken : MayTake task pairs before link.step state

-- a link tells how the state of a number was found: the search began with it, or the link leads to it from an earlier state
abbrev pub IsLinked : Task → List Pair → List Bool → List (List Bool) → ℕ → List Bool → Option Link → Type 0
IsLinked task pairs from states number state None = state ≡ from
IsLinked task pairs from states number state (Some link) = LeadsTo task pairs states number link state

-- states, any of which may stand twice, and links are a tree from a state: it is the first of the states, each is over the atoms and reachable, and a link tells
-- how it was found
pub record IsTree (task : Task) (pairs : List Pair) (from : List Bool) (states : List (List Bool)) (links : List (Option Link)) : Type 0 where
  pub first : slice_get states 0 ≡ Some from
  pub counted : length links ≡ length states
  pub long : (number : ℕ) (state : List Bool) → slice_get states number ≡ Some state → length state ≡ length task.atoms
  pub reachable : (number : ℕ) (state : List Bool) → slice_get states number ≡ Some state → IsReachable task from state
  pub linked : (number : ℕ) (state : List Bool) (link : Option Link) → slice_get states number ≡ Some state → slice_get links number ≡ Some link → IsLinked task pairs from states number state link

-- states were found in addition to others
abbrev pub IsMore : List (List Bool) → List (List Bool) → Type 0
IsMore old new = (more : List (List Bool)) × (new ≡ old ++ more)

-- some outcome of an action leads from a state into a layer
pub record MayLose (layers : List (List CubeView)) (state : List Bool) (act : Act) : Type 0 where
  pub entries : List Entry
  pub one : Contains act.outcomes entries
  pub lies : LiesInLayers (next_state state entries) layers

-- each outcome of an action leads from a state to one of the states
abbrev pub StaysAmong : List (List Bool) → List Bool → Act → Type 0
StaysAmong states state act = (entries : List Entry) → Contains act.outcomes entries → Contains states (next_state state entries)

-- an action need not be tried in a state any more: a pair bars it, or some outcome leads into a layer, or each outcome leads to a
-- state that is found
abbrev pub IsTried : List (List CubeView) → List Pair → List (List Bool) → List Bool → ℕ → Act → Type 0
IsTried layers pairs states state number act = IsBarred pairs number state ⊎ (MayLose layers state act ⊎ StaysAmong states state act)

-- each action that is applicable in a state was tried there
abbrev pub AreTried : Task → List (List CubeView) → List Pair → List (List Bool) → List Bool → Type 0
AreTried task layers pairs states state = (number : ℕ) (act : Act) → slice_get task.acts number ≡ Some act → IsTrue (is_true state act.pre) → IsTried layers pairs states state number act

-- a state is opened: it is no goal, and each action that is applicable in it was tried there
pub record IsOpened (task : Task) (layers : List (List CubeView)) (pairs : List Pair) (states : List (List Bool)) (state : List Bool) : Type 0 where
  pub open_ : ¬ IsGoal task state
  pub tried : AreTried task layers pairs states state

-- the first states are opened
abbrev pub AreOpened : Task → List (List CubeView) → List Pair → List (List Bool) → ℕ → Type 0
AreOpened task layers pairs states count = (number : ℕ) (state : List Bool) → number < count → slice_get states number ≡ Some state → IsOpened task layers pairs states state
