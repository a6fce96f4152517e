use Rattle.fond_explicit.specs.Filings.{AreCollected}
use Rattle.fond_explicit.proofs.filing.collect.Given as goal

abbrev pub invariant-loop-atom : goal.invariant-loop-atom
invariant-loop-atom l = AreCollected l.index.by_atom.items l.state l.atom l.fn.out.items l.out.items
