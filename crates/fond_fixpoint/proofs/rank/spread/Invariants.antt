use Rattle.std.proofs.Common.{◌+◌, ◌-◌, ◌≤◌, vec_len}
use Rattle.std.specs.Prelude.{count_by}
use Rattle.fond_fixpoint.specs.Fates.{is_open}
use Rattle.fond_fixpoint.specs.Rounds.{IsSearch}
use Rattle.fond_fixpoint.proofs.rank.spread.Given as goal

abbrev pub invariant-loop-head : goal.invariant-loop-head
invariant-loop-head l = record {
  search : IsSearch l.moves l.initial.fates l.fates (vec_len l.initial.queue) (vec_len l.queue);
  within : l.head ≤ vec_len l.queue;
}

abbrev pub decreases-loop-head : goal.decreases-loop-head
decreases-loop-head l = (count_by is_open l.fates + vec_len l.queue) - l.head
