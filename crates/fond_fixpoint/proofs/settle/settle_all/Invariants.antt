use Rattle.std.proofs.Common.{ℕ, ◌-◌, length}
use Rattle.fond_fixpoint.specs.Rounds.{IsRound, IsSpent}
use Rattle.fond_fixpoint.proofs.settle.settle_all.Given as goal

abbrev pub invariant-rounds : goal.invariant-rounds
invariant-rounds l = record {
  bound : ℕ;
  now : IsRound l.goals l.moves l.round bound l.fates;
  spent : IsSpent l.moves l.fates;
}

abbrev pub decreases-rounds : goal.decreases-rounds
decreases-rounds l = length l.goals - l.round
