use Rattle.std.proofs.Common.{◌≡◌, ℕ, ◌<◌, Some, length, slice_get}
use Rattle.fond_policy.specs.declared.item.Item.{Item}
use Rattle.fond_policy.proofs.items.Items.are_over.Given as goal

abbrev pub invariant-loop-i : goal.invariant-loop-i
invariant-loop-i l = (k : ℕ) (item : Item) → k < l.i → slice_get l.self k ≡ Some item → length item.cube ≡ l.atoms
