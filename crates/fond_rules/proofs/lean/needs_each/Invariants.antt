use Rattle.std.proofs.Common.{◌≡◌, ℕ, ◌<◌, length}
use Rattle.fond_rules.specs.Leans.{NeedsLiteral}
use Rattle.fond_rules.proofs.lean.needs_each.Given as goal

abbrev pub invariant-loop-atom : goal.invariant-loop-atom
invariant-loop-atom g l = record {
  kept : l.cond ≡ l.initial.cond;
  long : length l.image ≡ length l.initial.image;
  needed : (k : ℕ) → k < l.atom → NeedsLiteral (g.T.Test.passes l.test) l.cond k;
}
