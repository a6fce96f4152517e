use Rattle.std.proofs.Common.{◌≡◌, ◌++◌, length, map}
use Rattle.fond_ground.specs.Atoms.{atoms_over}
use Rattle.fond_ground.proofs.atoms.put_atoms.Given as goal

abbrev pub invariant-loop-alloc : goal.invariant-loop-alloc
invariant-loop-alloc l = l.atoms ++ map (λ objects. record { predicate = l.predicate; objects = objects }) l.tuples ≡ l.fn.atoms ++ atoms_over l.predicate l.ranges

abbrev pub decreases-loop-alloc : goal.decreases-loop-alloc
decreases-loop-alloc l = length l.tuples
