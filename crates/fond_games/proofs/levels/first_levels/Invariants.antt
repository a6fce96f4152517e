use Rattle.std.proofs.Common.{◌≡◌, map, take}
use Rattle.fond_games.specs.Levels.{first_level}
use Rattle.fond_games.proofs.levels.first_levels.Given as goal

abbrev pub invariant-loop-kind : goal.invariant-loop-kind
invariant-loop-kind l = l.table.items ≡ map first_level (take l.kind-index l.kinds)
