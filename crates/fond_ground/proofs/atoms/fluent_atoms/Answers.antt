use Rattle.fond_ground.proofs.Counts.{atoms_more}
use Rattle.fond_ground.proofs.atoms.fluent_atoms.Goals as goal

pub loop-i-preserved : goal.loop-i-preserved
loop-i-preserved c = atoms_more c.args.task.now.predicates c.loop-i.i c.get.result.now c.loop-i.atoms c.put_fluent.new.atoms _ c.get.ensures c.in_ok-put_fluent.ensures c.loop-i.invariant
