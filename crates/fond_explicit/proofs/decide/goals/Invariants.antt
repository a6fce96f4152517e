use Rattle.std.proofs.Common.{◌≡◌, ℕ, ◌<◌, List, Bool, false, Some, slice_get, get_or, length}
use Rattle.std.specs.Prelude.{◌&&◌, ◌||◌, nat_le}
use Rattle.fond_task.specs.Truth.{is_true}
use Rattle.fond_explicit.proofs.decide.goals.Given as goal

abbrev pub invariant-loop-node : goal.invariant-loop-node
invariant-loop-node l = record {
  long : length l.goals.items ≡ l.node;
  are : (node : ℕ) (state : List Bool) → node < l.node → slice_get l.space.states node ≡ Some state → get_or l.goals.items node false ≡ (is_true state l.t.goal || (l.hopeful && nat_le l.space.opened node));
}
