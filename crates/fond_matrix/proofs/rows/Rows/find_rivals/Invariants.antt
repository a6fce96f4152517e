use Rattle.std.proofs.Common.{◌≡◌, ℕ, ◌-◌, ◌*◌, ◌<◌, min, length}
use Rattle.fond_matrix.specs.Rivals.{IsNoted, rival_at}
use Rattle.fond_matrix.proofs.rows.Rows.find_rivals.Given as goal

abbrev pub invariant-loop-start : goal.invariant-loop-start
invariant-loop-start l = record {
  long : length l.rivals ≡ length l.initial.rivals;
  noted : (a : ℕ) → a < length l.cube → IsNoted l.self l.cube (min (64 * l.start) l.end) a (rival_at l.rivals a);
}

abbrev pub decreases-loop-start : goal.decreases-loop-start
decreases-loop-start l = l.words - l.start
