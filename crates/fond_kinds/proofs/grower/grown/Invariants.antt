use Rattle.std.proofs.Common.{◌≡◌, ◌<◌, ℕ, true, []}
use Rattle.fond_kinds.specs.Growth.{IsResting, is_done}
use Rattle.fond_kinds.proofs.grower.grown.Given as goal

abbrev pub invariant-loop-start : goal.invariant-loop-start
invariant-loop-start l = record {
  resting : IsResting l.grower;
  kept : l.grower.parents.now ≡ l.parents;
  empty : l.path.items ≡ [];
  added : (number : ℕ) → number < l.start → is_done l.grower number ≡ true;
}
