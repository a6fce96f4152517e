use Rattle.std.proofs.Common.{◌≡◌, ℕ, ◌<◌, Some, length, slice_get}
use Rattle.fond_policy.specs.declared.item.Item.{Item}
use Rattle.fond_policy.specs.Items.{NeedsLiteral}
use Rattle.fond_policy.proofs.lean.needs_each.Given as goal

abbrev pub invariant-loop-atom : goal.invariant-loop-atom
invariant-loop-atom g l = record {
  kept : l.scratch.cube ≡ l.initial.scratch.cube;
  long : length l.scratch.image ≡ length l.initial.scratch.image;
  needed : (k : ℕ) (item : Item) → k < l.atom → slice_get l.items l.at ≡ Some item → NeedsLiteral l.t (g.R.Firsts.firsts l.rules) l.items l.at item k;
}
