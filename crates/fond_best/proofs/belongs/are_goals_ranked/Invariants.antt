use Rattle.std.proofs.Common.{◌≡◌, ℕ, ◌<◌, Some, slice_get}
use Rattle.fond_policy.specs.declared.item.Item.{Item}
use Rattle.fond_policy.specs.declared.item.Way.TheVariants.{Goal}
use Rattle.fond_best.proofs.belongs.are_goals_ranked.Given as goal

abbrev pub invariant-loop-number : goal.invariant-loop-number
invariant-loop-number l = (k : ℕ) (item : Item) (rank : ℕ) → k < l.number → slice_get l.items k ≡ Some item → item.way ≡ Goal → slice_get l.ranks k ≡ Some rank → rank ≡ 0
