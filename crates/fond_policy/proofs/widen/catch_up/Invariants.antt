use Rattle.std.proofs.Common.{◌≡◌, ◌+◌}
use Rattle.std.specs.Prelude.{Bool, length, if◌then◌else◌}
use Rattle.fond_policy.specs.Wider.{HaveWidened, all_literals}
use Rattle.fond_policy.proofs.widen.catch_up.Given as goal

abbrev pub invariant-loop-open : goal.invariant-loop-open
invariant-loop-open g l = record {
  pad : l.pad ≡ length l.t.atoms;
  widened : (changed : Bool) × HaveWidened l.t (g.R.Firsts.firsts l.rules) l.initial.items l.items changed;
}

abbrev pub decreases-loop-open : goal.decreases-loop-open
decreases-loop-open g l = all_literals l.items + (if l.open then 1 else 0)
