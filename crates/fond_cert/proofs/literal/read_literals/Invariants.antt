use Rattle.std.proofs.Common.{length}
use Rattle.fond_cert.proofs.Cubes.{LeftLiterals}
use Rattle.fond_cert.proofs.literal.read_literals.Given as goal

abbrev pub invariant-loop-sign : goal.invariant-loop-sign
invariant-loop-sign l = LeftLiterals l.index l.at l.text l.rest l.literals.cube l.literals.last l.literals.is_ordered

abbrev pub decreases-loop-sign : goal.decreases-loop-sign
decreases-loop-sign l = length l.rest
