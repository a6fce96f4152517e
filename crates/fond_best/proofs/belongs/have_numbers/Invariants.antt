use Rattle.std.proofs.Common.{◌≡◌, ℕ, ◌<◌, Some, slice_get}
use Rattle.fond_policy.specs.Belongs.{HasNumber}
use Rattle.fond_policy.specs.declared.item.Item.{Item}
use Rattle.fond_best.proofs.belongs.have_numbers.Given as goal

abbrev pub invariant-loop-number : goal.invariant-loop-number
invariant-loop-number l = (k : ℕ) (item : Item) → k < l.number → slice_get l.items k ≡ Some item → HasNumber item.way
