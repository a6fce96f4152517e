use Rattle.std.proofs.Common.{◌≡◌, ℕ, ◌<◌, ◌≤◌, true}
use Rattle.fond_fixpoint.specs.declared.fate.Fate.TheVariants.{Fallen}
use Rattle.fond_fixpoint.specs.Moves.{move_at}
use Rattle.fond_fixpoint.specs.Fates.{fate_of}
use Rattle.fond_fixpoint.specs.Cascades.{is_ruined}
use Rattle.fond_fixpoint.proofs.cascade.were_ruined.Given as goal

abbrev pub invariant-loop-number : goal.invariant-loop-number
invariant-loop-number l = (k : ℕ) → k < l.number → (fell : ℕ) → fate_of l.fates (move_at l.moves k).source ≡ Fallen fell → l.round ≤ fell → is_ruined fell l.fates (move_at l.moves k) ≡ true
