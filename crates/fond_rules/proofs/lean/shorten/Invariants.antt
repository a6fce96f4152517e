use Rattle.std.proofs.Common.{◌≡◌, ℕ, ◌<◌, length}
use Rattle.fond_state.specs.Cubes.{CubeLiesIn}
use Rattle.fond_rules.specs.Leans.{NeedsLiteral}
use Rattle.fond_rules.proofs.lean.shorten.Given as goal

abbrev pub invariant-loop-atom : goal.invariant-loop-atom
invariant-loop-atom g l = record {
  long : length l.cond ≡ length l.initial.cond;
  image_long : length l.image ≡ length l.initial.image;
  lies : CubeLiesIn l.initial.cond l.cond;
  passes : g.T.Test.passes l.test l.cond;
  needed : (k : ℕ) → k < l.atom → NeedsLiteral (g.T.Test.passes l.test) l.cond k;
}
