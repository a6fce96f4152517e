use Rattle.fond_games.proofs.Tours.{tours_exist_lem}
use Rattle.fond_games.proofs.laws.tours_exist.Goals as goal

pub returns : goal.returns
returns c = tours_exist_lem
