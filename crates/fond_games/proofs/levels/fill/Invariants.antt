use Rattle.std.proofs.Common.{◌+◌, ◌≤◌}
use Rattle.fond_games.specs.Levels.{AreLevelsTo, zeros}
use Rattle.fond_games.proofs.levels.fill.Given as goal

abbrev pub invariant-loop-round : goal.invariant-loop-round
invariant-loop-round l = record {
  so_far : AreLevelsTo l.kinds l.graph (l.round + 1) l.table.items;
  few : l.round + zeros l.table.items ≤ l.count;
}
