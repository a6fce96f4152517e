use Rattle.std.proofs.Common.{◌≡◌}
use Rattle.std.specs.Prelude.{length}
use Rattle.fond_policy.specs.Items.{AreItemsOver, AreSureItems}
use Rattle.fond_policy.specs.Wider.{AreWider, all_literals}
use Rattle.fond_policy.proofs.widen.settle.Given as goal

abbrev pub invariant-loop-items : goal.invariant-loop-items
invariant-loop-items g l = record {
  pad : l.pad ≡ length l.t.atoms;
  over : AreItemsOver (length l.t.atoms) l.items;
  sure : AreSureItems l.t (g.R.Firsts.firsts l.rules) l.items;
  wider : AreWider l.items l.initial.items;
}

abbrev pub decreases-loop-items : goal.decreases-loop-items
decreases-loop-items g l = all_literals l.items
