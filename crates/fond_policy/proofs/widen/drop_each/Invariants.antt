use Rattle.std.proofs.Common.{◌≡◌, ℕ, ◌<◌, false, Some, length, slice_get}
use Rattle.fond_policy.specs.declared.item.Item.{Item}
use Rattle.fond_policy.specs.Items.{NeedsLiteral}
use Rattle.fond_policy.specs.Wider.{HaveWidened}
use Rattle.fond_policy.proofs.widen.drop_each.Given as goal

abbrev pub invariant-loop-atom : goal.invariant-loop-atom
invariant-loop-atom g l = record {
  same : (item : Item) → slice_get l.items l.at ≡ Some item → l.scratch.cube ≡ item.cube;
  long : length l.scratch.image ≡ length l.t.atoms;
  widened : HaveWidened l.t (g.R.Firsts.firsts l.rules) l.initial.items l.items l.changed;
  needed : l.changed ≡ false → (k : ℕ) (item : Item) → k < l.atom → slice_get l.items l.at ≡ Some item → NeedsLiteral l.t (g.R.Firsts.firsts l.rules) l.items l.at item k;
}
