use Rattle.std.proofs.Common.{vec_len}
use Rattle.fond_fixpoint.specs.Rounds.{IsSearch}
use Rattle.fond_fixpoint.proofs.rank.meet_all.Given as goal

abbrev pub invariant-loop-number : goal.invariant-loop-number
invariant-loop-number l = IsSearch l.moves l.initial.fates l.fates (vec_len l.initial.queue) (vec_len l.queue)
