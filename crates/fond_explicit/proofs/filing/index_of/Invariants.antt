use Rattle.fond_explicit.specs.Filings.{AreFiled}
use Rattle.fond_explicit.proofs.filing.index_of.Given as goal

abbrev pub invariant-loop-number : goal.invariant-loop-number
invariant-loop-number l = AreFiled l.t l.number l.index
