use Rattle.std.proofs.Common.{◌<◌, ℕ}
use Rattle.fond_ground.specs.Patterns.{Follows}
use Rattle.fond_ground.proofs.patterns.agrees.Given as goal

-- each object so far follows its variable
abbrev pub invariant-loop-i : goal.invariant-loop-i
invariant-loop-i l = (at : ℕ) → at < l.i → Follows l.pattern l.objects at
