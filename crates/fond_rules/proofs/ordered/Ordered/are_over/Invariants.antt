use Rattle.std.proofs.Common.{◌≡◌, ℕ, ◌<◌, length, get_or}
use Rattle.fond_rules.proofs.ordered.Ordered.are_over.Given as goal

abbrev pub invariant-loop-item : goal.invariant-loop-item
invariant-loop-item g l = (k : ℕ) (d : g.row.T.Denot) → k < l.item-index → length (g.T.HasCube.cube (get_or l.item-items k d)) ≡ l.atoms
