use Rattle.std.proofs.Common.{◌≡◌, ℕ, true, vec_len}
use Rattle.fond_kinds.specs.Growth.{IsUnwinding, is_met, is_done}
use Rattle.fond_kinds.proofs.grower.Grower.unwind.Given as goal

abbrev pub invariant-loop-number : goal.invariant-loop-number
invariant-loop-number l = record {
  unwinding : IsUnwinding l.self l.path.items l.above l.last;
  kept : l.self.parents.now ≡ l.fn.self.parents.now;
  met : (number : ℕ) → is_met l.fn.self number ≡ true → is_met l.self number ≡ true;
  grown : (number : ℕ) → is_done l.fn.self number ≡ true → is_done l.self number ≡ true;
}

abbrev pub decreases-loop-number : goal.decreases-loop-number
decreases-loop-number l = vec_len l.path
