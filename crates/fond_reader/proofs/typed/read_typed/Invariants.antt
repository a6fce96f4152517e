use Rattle.std.proofs.Common.{[], length}
use Rattle.fond_reader.specs.Sorts.{AddsTyped}
use Rattle.fond_reader.proofs.typed.read_typed.Given as goal

-- declarations of the leaves so far were read, and the rest of the list fits
abbrev pub invariant-loop-rest : goal.invariant-loop-rest
invariant-loop-rest l = AddsTyped l.fn.sort l.trees l.rest [] l.names

abbrev pub decreases-loop-rest : goal.decreases-loop-rest
decreases-loop-rest l = length l.rest
