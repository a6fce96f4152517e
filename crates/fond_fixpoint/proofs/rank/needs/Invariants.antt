use Rattle.std.proofs.Common.{◌≡◌, vec_len}
use Rattle.fond_fixpoint.proofs.rank.needs.Given as goal

abbrev pub invariant-loop-number : goal.invariant-loop-number
invariant-loop-number l = vec_len l.need ≡ l.number
