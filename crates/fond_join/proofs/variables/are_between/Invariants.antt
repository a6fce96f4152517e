use Rattle.std.proofs.Common.{◌≡◌, ◌≤◌, ◌<◌, ℕ, false, drop}
use Rattle.std.specs.List.{list_any}
use Rattle.fond_ast.specs.Patterns.{is_variable}
use Rattle.fond_join.proofs.variables.are_between.Given as goal

-- the terms so far are no such variable
abbrev pub invariant-loop-term : goal.invariant-loop-term
invariant-loop-term l = (number : ℕ) → l.start ≤ number → number < l.end → list_any (is_variable number) (drop l.term-index l.terms) ≡ false → list_any (is_variable number) l.terms ≡ false
