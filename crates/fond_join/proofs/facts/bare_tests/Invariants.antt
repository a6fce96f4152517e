use Rattle.std.proofs.Common.{◌≡◌, ℕ, List, true, false, drop, length, vec_len, get_or}
use Rattle.std.specs.FinSet as set
use Rattle.fond_ast.specs.Solutions.{initial}
use Rattle.fond_ast.specs.States.{atoms_of}
use Rattle.fond_ast.specs.Within.{is_fluent}
use Rattle.fond_join.proofs.facts.bare_tests.Given as goal

abbrev pub invariant-loop-atom : goal.invariant-loop-atom
invariant-loop-atom l = record {
  long : vec_len l.bare ≡ length l.task.predicates;
  left : (predicate : ℕ) (objects : List ℕ) → get_or l.bare.items predicate false ≡ true →
      (is_fluent l.task.predicates predicate ≡ false)
      × (set.contains (initial l.task) (record { predicate = predicate; objects = objects }) ≡ set.contains (atoms_of (drop l.atom-index l.task.init)) (record { predicate = predicate; objects = objects }));
}
