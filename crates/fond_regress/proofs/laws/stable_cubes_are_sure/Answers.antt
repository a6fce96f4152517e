use Rattle.fond_regress.proofs.Hopeless.{stable_sure}
use Rattle.fond_regress.proofs.laws.stable_cubes_are_sure.Goals as goal

pub returns : goal.returns
returns c = stable_sure
