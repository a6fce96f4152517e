use Rattle.std.proofs.Common.{◌≡◌, ◌++◌, drop}
use Rattle.fond_ground.specs.Patterns.{code, shape}
use Rattle.fond_ground.proofs.patterns.shape_code.Given as goal

-- the code so far, with that of the terms that are left, is the whole
abbrev pub invariant-loop-term : goal.invariant-loop-term
invariant-loop-term l = l.numbers.items ++ code (shape (drop l.term-index l.pattern)) ≡ code (shape l.pattern)
