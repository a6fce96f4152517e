use Rattle.fond_task.specs.Distinct.{atom_numbers}
use Rattle.fond_store.proofs.Firsts.{HasFirsts}
use Rattle.fond_ground.proofs.table.indexed.Given as goal

abbrev pub invariant-loop-i : goal.invariant-loop-i
invariant-loop-i l = HasFirsts atom_numbers l.atoms l.numbers l.i
