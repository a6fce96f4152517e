use Rattle.std.proofs.Common.{length}
use Rattle.fond_cert.proofs.Words.{LeftTargets}
use Rattle.fond_cert.proofs.target.targets_at.Given as goal

abbrev pub invariant-loop-inner : goal.invariant-loop-inner
invariant-loop-inner l = LeftTargets l.at l.text l.rest l.targets

abbrev pub decreases-loop-inner : goal.decreases-loop-inner
decreases-loop-inner l = length l.rest
