use Rattle.std.proofs.Common.{◌≡◌, ℕ, ◌<◌, List, Some, length, slice_get}
use Rattle.fond_task.specs.declared.task.Entry.{Entry}
use Rattle.fond_task.specs.Images.{image}
use Rattle.fond_task.specs.declared.rule.Target.{Target}
use Rattle.fond_rules.specs.Targets.{MeetsEarlier}
use Rattle.fond_rules.proofs.rule_test.RuleTest.each_meets.Given as goal

abbrev pub invariant-loop-i : goal.invariant-loop-i
invariant-loop-i l = record {
  long : length l.image ≡ length l.self.task.now.atoms;
  met : (k : ℕ) (target : Target) (entries : List Entry) → k < l.i → slice_get l.targets k ≡ Some target → slice_get l.outcomes k ≡ Some entries →
      MeetsEarlier l.self.task.now l.self.rules.now l.self.number (image l.cond entries) target;
}
