use Rattle.std.proofs.Common.{◌≡◌, ℕ, ◌<◌, Some, slice_get}
use Rattle.fond_policy.specs.declared.item.Item.{Item}
use Rattle.fond_policy.specs.Items.{IsSureItem}
use Rattle.fond_policy.proofs.sure.are_sure.Given as goal

abbrev pub invariant-loop-at : goal.invariant-loop-at
invariant-loop-at g l = record {
  pad : l.pad ≡ l.initial.pad;
  sure : (k : ℕ) (item : Item) → k < l.at → slice_get l.items k ≡ Some item → IsSureItem l.t (g.R.Firsts.firsts l.rules) l.items item;
}
