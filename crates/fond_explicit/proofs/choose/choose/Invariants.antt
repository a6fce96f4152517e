use Rattle.fond_explicit.specs.Spaces.{AreRanks}
use Rattle.fond_explicit.proofs.choose.choose.Given as goal

abbrev pub invariant-loop-node : goal.invariant-loop-node
invariant-loop-node l = AreRanks l.states l.moves l.fates l.node l.choices
