-- Planners: the draft of a policy for a task, and the plans that are kept for its rules; pairs of which one bars more than others.
use Rattle.std.specs.Prelude.{◌≡◌, ℕ, List, Contains}
use Rattle.fond_task.specs.declared.task.Task.{Task}
use Rattle.fond_task.specs.declared.rule.Pair.{Pair}
use Rattle.fond_draft.specs.Barring.{BarsMore}
use Rattle.fond_draft.specs.Drafts.{IsDraft}
use Rattle.fond_draft.specs.Plans.{ArePlans}
use Rattle.fond_explicit.specs.Filings.{IsIndexOf}
use Rattle.fond_planner.specs.declared.planner.Planner.{Planner}

-- a planner is right: its draft, its plans and its index of actions are right for its task
pub record IsPlanner {S : Type 0} (planner : Planner S) : Type 0 where
  pub draft : IsDraft planner.task.now planner.draft
  pub plans : ArePlans planner.task.now planner.plans.items
  pub index : IsIndexOf planner.task.now planner.index

-- a planner is right, and is for this task and this budget
pub record IsPlannerOf {S : Type 0} (task : Task) (budget : ℕ) (planner : Planner S) : Type 0 where
  pub same_task : planner.task.now ≡ task
  pub same_budget : planner.budget ≡ budget
  pub right : IsPlanner planner

-- the second planner goes on from the first: it is right, for the first one's task and budget, and has the same pairs
pub record Keeps {S : Type 0} (before after : Planner S) : Type 0 where
  pub planner : IsPlannerOf before.task.now before.budget after
  pub pairs : after.draft.pairs ≡ before.draft.pairs

-- a pair of the second list bars its action in a reachable state in which no pair of the first list bars it
abbrev pub BarsMoreThan : Task → List Pair → List Pair → Type 0
BarsMoreThan task others pairs = (pair : Pair) × Contains pairs pair × BarsMore task others pair
