use Rattle.std.proofs.Common.{ℕ, ◌<◌}
use Rattle.fond_games.specs.Certified.{IsRightAt}
use Rattle.fond_games.specs.Levels.{kind_at}
use Rattle.fond_games.proofs.certified.are_right.Given as goal

abbrev pub invariant-loop-node : goal.invariant-loop-node
invariant-loop-node l = (k : ℕ) → k < l.node → IsRightAt (kind_at l.kinds k) l.graph l.table k
