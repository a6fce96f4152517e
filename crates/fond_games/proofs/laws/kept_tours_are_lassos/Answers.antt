use Rattle.fond_games.proofs.Toured.{kept_graphs_go_on_lem, kept_tours_are_lassos_lem}
use Rattle.fond_games.proofs.laws.kept_tours_are_lassos.Goals as goal

pub returns : goal.returns
returns g c = record { goes_on = kept_graphs_go_on_lem g.row.S.Denot g.row.A.Denot; lasso = kept_tours_are_lassos_lem g.row.S.Denot g.row.A.Denot }
