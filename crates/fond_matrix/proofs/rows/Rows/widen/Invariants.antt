use Rattle.std.proofs.Common.{◌≡◌, ℕ, [], length}
use Rattle.std.specs.Prelude.{slice_index_or}
use Rattle.fond_matrix.proofs.rows.Rows.widen.Given as goal

abbrev pub invariant-loop : goal.invariant-loop
invariant-loop l = record {
  counted : length l.self-inside.rows.items ≡ l.counter;
  same : (r : ℕ) → slice_index_or l.self-inside.rows.items r [] ≡ slice_index_or l.initial.self-inside.rows.items r [];
}
