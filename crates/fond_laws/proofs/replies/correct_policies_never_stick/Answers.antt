use Rattle.fond_laws.proofs.Stuck.{correct_never_stuck}
use Rattle.fond_laws.proofs.replies.correct_policies_never_stick.Goals as goal

pub returns : goal.returns
returns c = correct_never_stuck
