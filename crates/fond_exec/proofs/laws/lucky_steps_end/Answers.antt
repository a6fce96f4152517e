use Rattle.fond_exec.proofs.Descent.{lucky_end}
use Rattle.fond_exec.proofs.laws.lucky_steps_end.Goals as goal

pub returns : goal.returns
returns c = lucky_end
