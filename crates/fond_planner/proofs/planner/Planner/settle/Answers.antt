use Rattle.std.proofs.Common.{List, sym, subst}
use Rattle.fond_task.specs.declared.rule.Pair.{Pair}
use Rattle.fond_regress.specs.Barred.{IsBarred}
use Rattle.fond_planner.proofs.Walked.{next_reachable}
use Rattle.fond_planner.proofs.planner.Planner.settle.Goals as goal

pub find-requires-clause-reachable : goal.find-requires-clause-reachable
find-requires-clause-reachable g c = next_reachable c.args.self.now.task.now c.args.step.now c.requires.step

pub bar-requires-clause-free : goal.bar-requires-clause-free
bar-requires-clause-free g c =
    subst (λ (pairs : List Pair). ¬ IsBarred pairs c.args.step.now.act c.args.step.now.state) (sym c.in_ok-find.ensures.keeps.pairs) c.requires.free
