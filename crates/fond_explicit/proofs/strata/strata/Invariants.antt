use Rattle.std.proofs.Common.{◌≤◌, length}
use Rattle.fond_explicit.specs.Spaces.{AreRounds}
use Rattle.fond_explicit.proofs.strata.strata.Given as goal

abbrev pub invariant-loop-node : goal.invariant-loop-node
invariant-loop-node l = record {
  rounds : AreRounds l.states l.fates l.node l.layers.items;
  few : length l.layers.items ≤ length l.states;
}
