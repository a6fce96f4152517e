use Rattle.std.proofs.Common.{ℕ, ◌<◌}
use Rattle.std.specs.Prelude.{slice_index_or}
use Rattle.fond_state.specs.Words.{mask_at, Agree}
use Rattle.fond_state.proofs.cube.Cube.holds.Given as goal

abbrev pub invariant-loop-i : goal.invariant-loop-i
invariant-loop-i l = (k : ℕ) → k < l.i → Agree (mask_at l.self-inside.masks.items k) (slice_index_or l.s-inside.words.items k 0)
