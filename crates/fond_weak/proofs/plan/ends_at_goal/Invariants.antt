use Rattle.std.proofs.Common.{◌≡◌, drop, length}
use Rattle.fond_weak.specs.Weak.{IsWeakPlan}
use Rattle.fond_weak.proofs.plan.ends_at_goal.Given as goal

-- if the steps that are left are a plan, all are one
abbrev pub invariant-loop-step : goal.invariant-loop-step
invariant-loop-step l = record {
  long : length l.state ≡ length l.setting.task.now.atoms;
  next_long : length l.next ≡ length l.setting.task.now.atoms;
  back : IsWeakPlan l.setting.task.now l.setting.pairs.now l.state (drop l.step-index l.steps) → IsWeakPlan l.setting.task.now l.setting.pairs.now l.fn.state l.steps;
}
