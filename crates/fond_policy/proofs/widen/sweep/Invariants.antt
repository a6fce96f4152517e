use Rattle.std.proofs.Common.{◌≡◌}
use Rattle.std.specs.Prelude.{length}
use Rattle.fond_policy.specs.Wider.{HaveWidened}
use Rattle.fond_policy.proofs.widen.sweep.Given as goal

abbrev pub invariant-loop-done : goal.invariant-loop-done
invariant-loop-done g l = record {
  pad : l.pad ≡ length l.t.atoms;
  widened : HaveWidened l.t (g.R.Firsts.firsts l.rules) l.initial.items l.items l.changed;
}
