use Rattle.fond_games.proofs.Raised.{begun}
use Rattle.fond_games.proofs.levels.in_rounds.Goals as goal

pub fill-requires-clause-first : goal.fill-requires-clause-first
fill-requires-clause-first c = begun c.args.kinds.now c.args.graph.now c.requires.known c.in_ok-table.table.items c.in_ok-table.ensures
