use Rattle.std.proofs.Common.{◌≡◌, ℕ, length, vec_len}
use Rattle.std.specs.Prelude.{count_by}
use Rattle.fond_fixpoint.specs.Fates.{is_open}
use Rattle.fond_fixpoint.specs.Rounds.{IsSearch}
use Rattle.fond_fixpoint.proofs.rank.rank_all.Given as goal

abbrev pub invariant-winners : goal.invariant-winners
invariant-winners l = record {
  needs : vec_len l.need ≡ length l.moves;
  before : ℕ;
  search : IsSearch l.moves l.fn.fates l.fates before (vec_len l.queue);
}

abbrev pub decreases-winners : goal.decreases-winners
decreases-winners l = count_by is_open l.fates
