use Rattle.std.proofs.Common.{◌≡◌, ◌-◌, ◌^◌, ◌<◌, ◌≤◌, ℕ, List, Bool, Some, length, slice_get}
use Rattle.std.specs.Prelude.{Contains}
use Rattle.fond_task.specs.Policies.{IsNext}
use Rattle.fond_explicit.specs.Answers.{ChoiceView}
use Rattle.fond_draft.specs.Plans.{IsProvided}
use Rattle.fond_draft.proofs.below.add_below.Given as goal

-- the states are some of the plan; where the choices of the first lead, this many, is provided for
abbrev pub invariant-loop-at : goal.invariant-loop-at
invariant-loop-at l = record {
  next_long : length l.next ≡ length l.t.atoms;
  done : l.at ≤ length l.states;
  each : (state : List Bool) → Contains l.states state → Contains l.plan.states state;
  kept : (state : List Bool) → Contains l.initial.states state → Contains l.states state;
  closed : (k : ℕ) (choice : ChoiceView) (after : List Bool) → k < l.at → slice_get l.states k ≡ Some choice.state → Contains l.plan.choices choice → IsNext l.t choice.state choice.act after
      → IsProvided l.t l.rules l.plan.choices l.states choice.rank after;
}

abbrev pub decreases-loop-at : goal.decreases-loop-at
decreases-loop-at l = 2 ^ 32 - l.at
