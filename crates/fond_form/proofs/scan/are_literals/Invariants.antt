use Rattle.std.proofs.Common.{length}
use Rattle.fond_form.specs.Parts.{IsLiteralsText}
use Rattle.fond_form.proofs.scan.are_literals.Given as goal

abbrev pub invariant-loop-further : goal.invariant-loop-further
invariant-loop-further l = (IsLiteralsText l.rest → IsLiteralsText l.text) × (IsLiteralsText l.text → IsLiteralsText l.rest)

abbrev pub decreases-loop-further : goal.decreases-loop-further
decreases-loop-further l = length l.rest
