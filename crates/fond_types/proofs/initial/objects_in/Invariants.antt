use Rattle.std.proofs.Common.{◌≡◌, ◌++◌, drop}
use Rattle.fond_types.specs.Ground.{objects_in}
use Rattle.fond_types.proofs.initial.objects_in.Given as goal

-- the objects so far and those that are left are all
abbrev pub invariant-loop-i : goal.invariant-loop-i
invariant-loop-i l = l.objects ++ objects_in (drop l.i l.terms) ≡ objects_in l.terms
