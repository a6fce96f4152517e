use Rattle.fond_games.proofs.Decided.{rankings_decide_lem}
use Rattle.fond_games.proofs.laws.rankings_decide.Goals as goal

pub returns : goal.returns
returns g c = rankings_decide_lem g.row.S.Denot g.row.A.Denot
