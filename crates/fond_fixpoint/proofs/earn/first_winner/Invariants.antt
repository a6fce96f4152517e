use Rattle.std.proofs.Common.{◌≡◌, ℕ, ◌<◌, true, false}
use Rattle.fond_fixpoint.specs.Moves.{move_at}
use Rattle.fond_fixpoint.specs.Fates.{fate_of, is_open, wins}
use Rattle.fond_fixpoint.proofs.earn.first_winner.Given as goal

-- no move so far wins from an open node
abbrev pub invariant-loop-number : goal.invariant-loop-number
invariant-loop-number l = (k : ℕ) → k < l.number → is_open (fate_of l.fates (move_at l.moves k).source) ≡ true → wins l.fates (move_at l.moves k) ≡ false
