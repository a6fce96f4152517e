-- Walks through the states that a draft's rules reach.
use Rattle.std.specs.Prelude.{◌≡◌, ◌⊎◌, List, Some, length, slice_get, IsTrue}
use Rattle.fond_task.specs.declared.task.Act.{Act}
use Rattle.fond_task.specs.declared.task.Entry.{Entry}
use Rattle.fond_task.specs.declared.task.Task.{Task}
use Rattle.fond_task.specs.Steps.{next_state}
use Rattle.fond_task.specs.Truth.{is_true}
use Rattle.fond_task.specs.Policies.{IsGoal}
use Rattle.fond_task.specs.Certificates.{LiesInLayers}
use Rattle.fond_explicit.specs.Answers.{IsReachable}
use Rattle.fond_regress.specs.Barred.{IsBarred}
use Rattle.fond_draft.specs.Targets.{HasRule}
use Rattle.fond_draft.specs.Turns.{AreReachable}
use Rattle.fond_draft.specs.declared.draft.Draft.{Draft}
use Rattle.fond_planner.specs.declared.sketched.Trail.{Trail}
use Rattle.fond_planner.specs.declared.walk.Step.{Step}

-- the action of a step is applicable in its state, which is reachable and no goal, and its next state is over the atoms
pub record IsOutset (task : Task) (step : Step) : Type 0 where
  pub reachable : IsReachable task task.init step.state
  pub open_ : ¬ IsGoal task step.state
  pub act : Act
  pub has_act : slice_get task.acts step.act ≡ Some act
  pub applicable : IsTrue (is_true step.state act.pre)
  pub long : length step.next ≡ length task.atoms

-- a step is one of the task: it leads from its state to its next one by its outcome of its action
pub record IsStep (task : Task) (step : Step) : Type 0 where
  pub outset : IsOutset task step
  pub entries : List Entry
  pub has_outcome : slice_get outset.act.outcomes step.outcome ≡ Some entries
  pub led : step.next ≡ next_state step.state entries

-- a trail is one of the task: the states of its nodes are reachable, and those of its step are over the atoms
pub record IsTrail (task : Task) (trail : Trail) : Type 0 where
  pub reachable : AreReachable task trail.states
  pub state_long : length trail.step.state ≡ length task.atoms
  pub next_long : length trail.step.next ≡ length task.atoms

-- the next state of a step is settled: a rule holds in it; or it lies in a layer, and a fresh pair bars the action of the step
abbrev pub IsSettled : Task → Draft → Step → Type 0
IsSettled task draft step = HasRule draft.rules step.next ⊎ (LiesInLayers step.next draft.layers × IsBarred draft.fresh.items step.act step.state)
