use Rattle.std.proofs.Common.{◌≡◌, ◌++◌, drop}
use Rattle.fond_ground.specs.Patterns.{code}
use Rattle.fond_ground.proofs.patterns.code_of.Given as goal

-- the code so far, with that of the terms that are left, is the whole
abbrev pub invariant-loop-term : goal.invariant-loop-term
invariant-loop-term l = l.numbers.items ++ code (drop l.term-index l.pattern) ≡ code l.pattern
