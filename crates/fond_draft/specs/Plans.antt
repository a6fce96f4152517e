-- Choices that win, from which rules are made.
use Rattle.std.specs.Prelude.{◌≡◌, ◌⊎◌, ℕ, List, Bool, Some, length, map, slice_get, Contains}
use Rattle.fond_task.specs.declared.task.Task.{Task}
use Rattle.fond_task.specs.declared.task.Act.{Act}
use Rattle.fond_task.specs.Policies.{IsApplicable, IsNext}
use Rattle.fond_task.specs.declared.rule.Rule.{Rule}
use Rattle.fond_explicit.specs.Answers.{AreWinning, ChoiceView, HasSmaller}
use Rattle.fond_draft.specs.Targets.{HasTargets, IsCovered}
use Rattle.fond_draft.specs.declared.plan.Plan.{Plan}

-- a plan is one of a task: its choices win from some state, and its states are theirs, one by one
pub record IsPlan (task : Task) (plan : Plan) : Type 0 where
  pub from : List Bool
  pub long : length from ≡ length task.atoms
  pub winning : AreWinning task from plan.choices
  pub numbered : plan.states ≡ map (λ choice. choice.state) plan.choices

-- plans are those of a task
abbrev pub ArePlans : Task → List Plan → Type 0
ArePlans task plans = (plan : Plan) → Contains plans plan → IsPlan task plan

-- a state is provided for among states below a rank: if it has a choice of a smaller rank, it is a goal, or a rule holds in
-- it, or it is one of the states
abbrev pub IsProvided : Task → List Rule → List ChoiceView → List (List Bool) → ℕ → List Bool → Type 0
IsProvided task rules choices states rank state = HasSmaller choices rank state → IsCovered task rules state ⊎ Contains states state

-- states of a plan are closed downward: to whatever state the choice of one of them leads, it is provided for
pub record AreBelow (task : Task) (rules : List Rule) (plan : Plan) (states : List (List Bool)) : Type 0 where
  pub each : (state : List Bool) → Contains states state → Contains plan.states state
  pub closed : (choice : ChoiceView) → Contains plan.choices choice → Contains states choice.state
      → (after : List Bool) → IsNext task choice.state choice.act after → IsProvided task rules plan.choices states choice.rank after

-- a choice is ready: its action is applicable in its state, and has targets there
pub record IsReady (task : Task) (rules : List Rule) (choice : ChoiceView) : Type 0 where
  pub long : length choice.state ≡ length task.atoms
  pub applicable : IsApplicable task choice.state choice.act
  pub targets : (act : Act) → slice_get task.acts choice.act ≡ Some act → HasTargets task rules choice.state act
