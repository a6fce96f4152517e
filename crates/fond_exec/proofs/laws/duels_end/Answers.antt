use Rattle.fond_exec.proofs.Duelling.{duels_end}
use Rattle.fond_exec.proofs.laws.duels_end.Goals as goal

pub returns : goal.returns
returns c = duels_end
