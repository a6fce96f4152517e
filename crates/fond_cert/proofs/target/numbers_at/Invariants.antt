use Rattle.std.proofs.Common.{length}
use Rattle.fond_cert.proofs.Words.{LeftNumbers}
use Rattle.fond_cert.proofs.target.numbers_at.Given as goal

abbrev pub invariant-loop-inner : goal.invariant-loop-inner
invariant-loop-inner l = LeftNumbers l.at l.text l.rest l.numbers

abbrev pub decreases-loop-inner : goal.decreases-loop-inner
decreases-loop-inner l = length l.rest
