use Rattle.fond_games.proofs.Decided.{lassos_refute_lem, lassos_are_found_lem}
use Rattle.fond_games.proofs.laws.lassos_decide.Goals as goal

pub returns : goal.returns
returns g c = record { refute = lassos_refute_lem g.row.S.Denot g.row.A.Denot; found = lassos_are_found_lem g.row.S.Denot g.row.A.Denot }
