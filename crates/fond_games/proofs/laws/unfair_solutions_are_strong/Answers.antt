use Rattle.fond_games.proofs.Decided.{unfair_solutions_lem}
use Rattle.fond_games.proofs.laws.unfair_solutions_are_strong.Goals as goal

pub returns : goal.returns
returns g c = unfair_solutions_lem g.row.S.Denot g.row.A.Denot
