use Rattle.std.proofs.Common.{◌<◌, ℕ}
use Rattle.fond_games.specs.Levels.{level_at}
use Rattle.fond_lasso.proofs.judge.first_open.Given as goal

abbrev pub invariant-loop-node : goal.invariant-loop-node
invariant-loop-node l = (k : ℕ) → k < l.node → 0 < level_at l.table k
