use Rattle.std.proofs.Common.{ℕ, ◌<◌, get_or}
use Rattle.fond_task.specs.declared.rule.Rule.{Rule}
use Rattle.fond_rules.proofs.rules.«Ordered+Rule».are_acts_below.Given as goal

abbrev pub invariant-loop-rule : goal.invariant-loop-rule
invariant-loop-rule l = (k : ℕ) (d : Rule) → k < l.rule-index → (get_or l.rule-items k d).act < l.acts
