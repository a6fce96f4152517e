use Rattle.std.proofs.Common.{ℕ, ◌-◌, ◌*◌, ◌<◌, length}
use Rattle.fond_matrix.specs.Rows.{IsOpposed}
use Rattle.fond_matrix.proofs.rows.Rows.first_beside.Given as goal

abbrev pub invariant-loop-start : goal.invariant-loop-start
invariant-loop-start l = (k : ℕ) → k < 64 * l.start → IsOpposed l.self l.cube (length l.cube) k

abbrev pub decreases-loop-start : goal.decreases-loop-start
decreases-loop-start l = l.words - l.start
