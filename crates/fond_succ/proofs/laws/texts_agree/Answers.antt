use Rattle.fond_succ.proofs.Between.{texts-agree}
use Rattle.fond_succ.proofs.laws.texts_agree.Goals as goal

pub returns : goal.returns
returns c = texts-agree
