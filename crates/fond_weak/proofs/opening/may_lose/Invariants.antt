use Rattle.std.proofs.Common.{◌≡◌, length}
use Rattle.fond_weak.proofs.opening.may_lose.Given as goal

abbrev pub invariant-loop-outcome : goal.invariant-loop-outcome
invariant-loop-outcome l = length l.next ≡ length l.setting.task.now.atoms
