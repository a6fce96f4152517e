use Rattle.fond_best.proofs.Best.{best_by}
use Rattle.fond_best.proofs.laws.certificates_are_best.Goals as goal

pub returns : goal.returns
returns c = best_by
