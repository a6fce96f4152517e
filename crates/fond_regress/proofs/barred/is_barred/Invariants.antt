use Rattle.std.proofs.Common.{◌≡◌, ℕ, ◌<◌, Some, slice_get}
use Rattle.fond_task.specs.declared.rule.Pair.{Pair}
use Rattle.fond_regress.specs.Barred.{Bars}
use Rattle.fond_regress.proofs.barred.is_barred.Given as goal

-- none of the pairs so far bars the action
abbrev pub invariant-loop-pair : goal.invariant-loop-pair
invariant-loop-pair l = (number : ℕ) (pair : Pair) → number < l.pair-index → slice_get l.pairs number ≡ Some pair → ¬ Bars pair l.act l.state
