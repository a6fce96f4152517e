use Rattle.fond_best.proofs.Verdicts.{right_rated}
use Rattle.fond_best.proofs.laws.right_are_rated.Goals as goal

pub returns : goal.returns
returns c = right_rated
