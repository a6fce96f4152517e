use Rattle.fond_succ.proofs.Places.{AreSoFar}
use Rattle.fond_succ.proofs.action.find_objects.Given as goal

abbrev pub invariant-loop-i : goal.invariant-loop-i
invariant-loop-i l = AreSoFar l.names l.ranges l.leaves l.i l.objects
