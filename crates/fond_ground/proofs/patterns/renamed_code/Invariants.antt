use Rattle.std.proofs.Common.{◌≡◌, ◌++◌, drop}
use Rattle.fond_ground.specs.Patterns.{code, renamed}
use Rattle.fond_ground.proofs.patterns.renamed_code.Given as goal

-- the code so far, with that of the terms that are left, is the whole
abbrev pub invariant-loop-i : goal.invariant-loop-i
invariant-loop-i l = l.numbers.items ++ code (renamed (drop l.i l.pattern) (drop l.i l.objects)) ≡ code (renamed l.pattern l.objects)
