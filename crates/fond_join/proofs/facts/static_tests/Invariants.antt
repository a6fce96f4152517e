use Rattle.std.proofs.Common.{◌≡◌, ◌++◌, not, map, drop}
use Rattle.fond_join.proofs.facts.static_tests.Given as goal

abbrev pub invariant-loop-i : goal.invariant-loop-i
invariant-loop-i l = l.tests.items ++ map (λ predicate. not predicate.fluent) (drop l.i l.task.predicates) ≡ map (λ predicate. not predicate.fluent) l.task.predicates
