use Rattle.std.proofs.Common.{◌≡◌, ◌++◌, [], drop}
use Rattle.std.specs.List.{enumerate_from, flat_map}
use Rattle.std.specs.Prelude.{if◌then◌else◌}
use Rattle.fond_ground.specs.Atoms.{atoms_over, fluent_atoms}
use Rattle.fond_ground.proofs.atoms.fluent_atoms.Given as goal

abbrev pub invariant-loop-i : goal.invariant-loop-i
invariant-loop-i l = l.atoms ++ flat_map (λ item. if item.1.fluent then atoms_over item.0 item.1.ranges else []) (enumerate_from l.i (drop l.i l.task.predicates)) ≡ fluent_atoms l.task
