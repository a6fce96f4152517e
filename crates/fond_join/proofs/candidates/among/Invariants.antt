use Rattle.std.proofs.Common.{◌≡◌, ◌++◌, drop}
use Rattle.fond_join.proofs.Rising.{picked}
use Rattle.fond_join.proofs.candidates.among.Given as goal

abbrev pub invariant-loop-object : goal.invariant-loop-object
invariant-loop-object l = l.objects.items ++ picked l.range l.least (drop l.object-index l.object-items) ≡ picked l.range 0 l.object-items
