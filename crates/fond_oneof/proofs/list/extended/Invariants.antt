use Rattle.std.proofs.Common.{◌≡◌, ℕ, ◌<◌, ◌≤◌, [], ◌++◌, length, map, get_or}
use Rattle.fond_oneof.specs.Shown.{shown}
use Rattle.fond_oneof.proofs.list.extended.Given as goal

abbrev pub invariant-loop-outcome : goal.invariant-loop-outcome
invariant-loop-outcome l = record {
  same_length : length l.outcome-items ≡ length l.fn.all.items;
  done : (k : ℕ) → k < l.outcome-index → map shown (get_or l.outcome-items k []) ≡ map shown (get_or l.fn.all.items k []) ++ map shown l.more;
  left : (k : ℕ) → l.outcome-index ≤ k → get_or l.outcome-items k [] ≡ get_or l.fn.all.items k [];
}
