use Rattle.std.proofs.Common.{◌≡◌, ℕ, ◌<◌, ◌≤◌, length}
use Rattle.std.specs.Prelude.{slice_index_or}
use Rattle.fond_state.specs.Words.{truth_in}
use Rattle.fond_matrix.proofs.row.Row.widen.Given as goal

abbrev pub invariant-loop : goal.invariant-loop
invariant-loop l = record {
  counted : length l.self-inside.words.items ≡ l.counter;
  grown : length l.initial.self-inside.words.items ≤ length l.self-inside.words.items;
  same : (number : ℕ) → truth_in l.self-inside.words.items number ≡ truth_in l.initial.self-inside.words.items number;
  clear : (i : ℕ) → i < l.self-inside.first → slice_index_or l.self-inside.words.items i 0 ≡ 0;
}
