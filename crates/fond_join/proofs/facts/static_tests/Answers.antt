use Rattle.std.proofs.Common.{not, ◌∙◌}
use Rattle.fond_join.proofs.Bared.{mapped_next}
use Rattle.fond_join.proofs.facts.static_tests.Goals as goal

pub loop-i-preserved : goal.loop-i-preserved
loop-i-preserved c =
    mapped_next (λ predicate. not predicate.fluent) c.args.task.now.predicates c.loop-i.i c.get.result.now c.loop-i.tests.items c.push.new.self.items c.get.ensures c.in_ok-push.ensures.items ∙ c.loop-i.invariant
