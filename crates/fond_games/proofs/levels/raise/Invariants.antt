use Rattle.fond_games.specs.Levels.{IsRound}
use Rattle.fond_games.proofs.levels.raise.Given as goal

abbrev pub invariant-loop-node : goal.invariant-loop-node
invariant-loop-node l = IsRound l.kinds l.graph l.level l.initial.table.items l.table.items l.is_raised l.node
