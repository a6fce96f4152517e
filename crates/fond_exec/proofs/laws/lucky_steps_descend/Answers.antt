use Rattle.fond_exec.proofs.Descent.{lucky_descend}
use Rattle.fond_exec.proofs.laws.lucky_steps_descend.Goals as goal

pub returns : goal.returns
returns c = lucky_descend
