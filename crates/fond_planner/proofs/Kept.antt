-- What holds of a planner holds of one that goes on from it.
use Rattle.std.proofs.Common.{◌≡◌, ◌∙◌, ℕ, List, Bool, length, sym, ap, subst}
use Rattle.fond_task.specs.declared.task.Task.{Task}
use Rattle.fond_layers.specs.Over as layers
use Rattle.fond_rules.specs.Select as rules
use Rattle.fond_draft.specs.Turns.{AreReachable}
use Rattle.fond_planner.specs.Planners.{Keeps}
use Rattle.fond_planner.specs.Walks.{IsStep, IsTrail}
use Rattle.fond_planner.specs.declared.planner.Planner.{Planner}
use Rattle.fond_planner.specs.declared.sketched.Trail.{Trail}
use Rattle.fond_planner.specs.declared.walk.Step.{Step}

-- a planner that goes on from one that goes on from another goes on from that one
pub keeps_on : {S : Type 0} {before now after : Planner S} → Keeps before now → Keeps now after → Keeps before after
keeps_on first next = record {
  planner = record {
    same_task = next.planner.same_task ∙ first.planner.same_task;
    same_budget = next.planner.same_budget ∙ first.planner.same_budget;
    right = next.planner.right;
  };
  pairs = next.pairs ∙ first.pairs;
}

module _ {S : Type 0} {before after : Planner S} (keeps : Keeps before after) where
  -- a state over the atoms of the task of a planner is over those of one that goes on from it
  pub long_on : (state : List Bool) → length state ≡ length before.task.now.atoms → length state ≡ length after.task.now.atoms
  long_on state long = long ∙ ap (λ (task : Task). length task.atoms) (sym keeps.planner.same_task)

  -- the layers of a planner that goes on from another are over the atoms of that one's task
  pub layers_over : (state : List Bool) → length state ≡ length before.task.now.atoms → layers.AreOver (length state) after.draft.layers
  layers_over state long = subst (λ (n : ℕ). layers.AreOver n after.draft.layers) (sym (long_on state long)) keeps.planner.right.draft.over

  -- the rules of a planner that goes on from another are over the atoms of that one's task
  pub rules_over : (state : List Bool) → length state ≡ length before.task.now.atoms → rules.AreOver (length state) after.draft.rules
  rules_over state long = subst (λ (n : ℕ). rules.AreOver n after.draft.rules) (sym (long_on state long)) keeps.planner.right.draft.rules.belong.over

  -- states that are reachable in the task of a planner are so in that of one that goes on from it
  pub reachable_on : (states : List (List Bool)) → AreReachable before.task.now states → AreReachable after.task.now states
  reachable_on states reachable = subst (λ (task : Task). AreReachable task states) (sym keeps.planner.same_task) reachable

  -- a step of the task of a planner is one of that of a planner that goes on from it
  pub step_on : (step : Step) → IsStep before.task.now step → IsStep after.task.now step
  step_on step is = subst (λ (task : Task). IsStep task step) (sym keeps.planner.same_task) is

  -- a trail of the task of a planner is one of that of a planner that goes on from it
  pub trail_on : (trail : Trail) → IsTrail before.task.now trail → IsTrail after.task.now trail
  trail_on trail is = subst (λ (task : Task). IsTrail task trail) (sym keeps.planner.same_task) is
