use Rattle.std.proofs.Common.{◌≡◌, ℕ, ◌<◌, Some, slice_get}
use Rattle.fond_task.specs.declared.task.Act.{Act}
use Rattle.fond_succ.proofs.successors.act_number.Given as goal

-- no action so far is the one
abbrev pub invariant-loop-i : goal.invariant-loop-i
invariant-loop-i l = (number : ℕ) (act : Act) → number < l.i → slice_get l.game.acts number ≡ Some act → act.ground ≡ l.action → ⊥
