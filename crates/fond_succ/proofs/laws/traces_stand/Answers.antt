use Rattle.fond_succ.proofs.Between.{traces-stand}
use Rattle.fond_succ.proofs.laws.traces_stand.Goals as goal

pub returns : goal.returns
returns c = traces-stand
