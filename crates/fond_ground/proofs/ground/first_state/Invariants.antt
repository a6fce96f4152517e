use Rattle.std.proofs.Common.{◌≡◌, length, map, take}
use Rattle.std.specs.FinSet as set
use Rattle.fond_ast.specs.Solutions.{initial}
use Rattle.fond_ground.proofs.ground.first_state.Given as goal

abbrev pub invariant-loop-i : goal.invariant-loop-i
invariant-loop-i l = record {
  long : length l.state ≡ length l.atoms;
  done : take l.i l.state ≡ map (set.contains (initial l.table.facts.task.now)) (take l.i l.atoms);
}
