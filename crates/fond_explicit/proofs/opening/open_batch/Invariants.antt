use Rattle.std.proofs.Common.{◌≡◌, ◌+◌, ◌≤◌, List, Bool, length}
use Rattle.fond_explicit.specs.Openings.{IsSpaceFrom}
use Rattle.fond_explicit.proofs.opening.open_batch.Given as goal

abbrev pub invariant-loop : goal.invariant-loop
invariant-loop l = record {
  next_long : length l.scratch.next ≡ length l.t.atoms;
  few : length l.space.states ≤ l.budget;
  keeps : (from : List Bool) → IsSpaceFrom l.t from l.fn.space → IsSpaceFrom l.t from l.space;
  opened : l.space.opened ≡ l.fn.space.opened + l.counter;
}
