-- The numbers so far are those of the words before what is left.
use Rattle.std.proofs.Common.{length}
use Rattle.fond_exec.proofs.Left.{Progress}
use Rattle.fond_exec.proofs.script.read_script.Given as goal

abbrev pub invariant-loop-further : goal.invariant-loop-further
invariant-loop-further l = Progress l.text l.rest l.numbers.items

abbrev pub decreases-loop-further : goal.decreases-loop-further
decreases-loop-further l = length l.rest
