use Rattle.fond_laws.proofs.Stuck.{never_stuck}
use Rattle.fond_laws.proofs.replies.solutions_never_stick.Goals as goal

pub returns : goal.returns
returns c = never_stuck
