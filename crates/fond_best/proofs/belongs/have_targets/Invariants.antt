use Rattle.std.proofs.Common.{◌≡◌, ℕ, ◌<◌, Some, slice_get}
use Rattle.fond_rules.specs.Belongs.{HasTarget}
use Rattle.fond_task.specs.declared.rule.Rule.{Rule}
use Rattle.fond_best.proofs.belongs.have_targets.Given as goal

abbrev pub invariant-loop-number : goal.invariant-loop-number
invariant-loop-number l = (k : ℕ) (rule : Rule) → k < l.number → slice_get l.rules k ≡ Some rule → HasTarget rule.targets
