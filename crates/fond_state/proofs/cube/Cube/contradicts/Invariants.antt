use Rattle.std.proofs.Common.{ℕ, ◌<◌}
use Rattle.fond_state.specs.Words.{mask_at, Oppose}
use Rattle.fond_state.proofs.cube.Cube.contradicts.Given as goal

abbrev pub invariant-loop-i : goal.invariant-loop-i
invariant-loop-i l = (k : ℕ) → k < l.i → ¬ Oppose (mask_at l.self-inside.masks.items k) (mask_at l.d-inside.masks.items k)
