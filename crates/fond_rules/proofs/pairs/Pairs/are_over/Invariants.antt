use Rattle.std.proofs.Common.{◌≡◌, ℕ, ◌<◌, length, get_or}
use Rattle.fond_task.specs.declared.rule.Pair.{Pair}
use Rattle.fond_rules.proofs.pairs.Pairs.are_over.Given as goal

abbrev pub invariant-loop-pair : goal.invariant-loop-pair
invariant-loop-pair l = (k : ℕ) (d : Pair) → k < l.pair-index → length (get_or l.pair-items k d).cond ≡ l.atoms
