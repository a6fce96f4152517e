use Rattle.std.proofs.Common.{◌≡◌, ◌<◌, List, Bool, Some, length, reverse, slice_get}
use Rattle.fond_weak.specs.Weak.{IsWeakPlan}
use Rattle.fond_weak.proofs.breadth.steps_to.Given as goal

-- the steps so far, last first, are a plan from the state of the number
abbrev pub invariant-loop-link : goal.invariant-loop-link
invariant-loop-link l = record {
  there : l.at < length l.tree.states;
  plan : (state : List Bool) → slice_get l.tree.states l.at ≡ Some state → IsWeakPlan l.setting.task.now l.setting.pairs.now state (reverse l.steps.items);
}

abbrev pub decreases-loop-link : goal.decreases-loop-link
decreases-loop-link l = l.at
