use Rattle.std.proofs.Common.{◌≡◌, ◌-◌, ◌≤◌, List, Bool, length}
use Rattle.fond_explicit.specs.Openings.{IsSpaceFrom}
use Rattle.fond_explicit.proofs.whole.open_every.Given as goal

abbrev pub invariant-batches : goal.invariant-batches
invariant-batches l = record {
  keeps : (from : List Bool) → IsSpaceFrom l.t from l.initial.space → IsSpaceFrom l.t from l.space;
  few : length l.space.states ≤ l.budget;
  next_long : length l.scratch.next ≡ length l.t.atoms;
}

abbrev pub decreases-batches : goal.decreases-batches
decreases-batches l = l.budget - l.space.opened
