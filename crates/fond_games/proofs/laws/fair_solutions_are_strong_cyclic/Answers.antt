use Rattle.fond_games.proofs.Decided.{fair_solutions_lem}
use Rattle.fond_games.proofs.laws.fair_solutions_are_strong_cyclic.Goals as goal

pub returns : goal.returns
returns g c = fair_solutions_lem g.row.S.Denot g.row.A.Denot
