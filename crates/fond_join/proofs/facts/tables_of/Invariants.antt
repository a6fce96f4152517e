use Rattle.std.proofs.Common.{◌≡◌, ◌||◌, ℕ, List, drop, length, vec_len}
use Rattle.std.specs.FinSet as set
use Rattle.fond_ast.specs.States.{atoms_of}
use Rattle.fond_ast.specs.Solutions.{initial}
use Rattle.fond_join.specs.Tables.{is_entered}
use Rattle.fond_join.proofs.facts.tables_of.Given as goal

abbrev pub invariant-loop-atom : goal.invariant-loop-atom
invariant-loop-atom l = record {
  long : vec_len l.tables ≡ length l.task.predicates;
  left : (predicate : ℕ) (objects : List ℕ) →
      (is_entered l.tables.items predicate objects || set.contains (atoms_of (drop l.atom-index l.task.init)) (record { predicate = predicate; objects = objects }))
      ≡ set.contains (initial l.task) (record { predicate = predicate; objects = objects });
}
