use Rattle.std.proofs.Common.{◌≡◌, ℕ, ◌-◌, ◌*◌, ◌<◌, ◌≤◌, length}
use Rattle.fond_matrix.specs.Rivals.{IsNoted, rival_at}
use Rattle.fond_matrix.proofs.rows.Rows.note_all.Given as goal

abbrev pub invariant-loop-atom : goal.invariant-loop-atom
invariant-loop-atom l = record {
  within : l.from ≤ length l.cube;
  long : length l.rivals ≡ length l.initial.rivals;
  done : (a : ℕ) → a < length l.cube → a < l.from → IsNoted l.self l.cube l.end a (rival_at l.rivals a);
  rest : (a : ℕ) → a < length l.cube → l.from ≤ a → IsNoted l.self l.cube (64 * l.start) a (rival_at l.rivals a);
}

abbrev pub decreases-loop-atom : goal.decreases-loop-atom
decreases-loop-atom l = length l.cube - l.from
