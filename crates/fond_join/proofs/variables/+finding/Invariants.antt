use Rattle.std.proofs.Common.{◌≡◌, ◌≤◌, ◌<◌, ℕ, false, map, drop}
use Rattle.std.specs.List.{list_any}
use Rattle.fond_ast.specs.Laws.{has_variable}
use Rattle.fond_join.proofs.variables.+finding.Given as goal

-- no such variable occurs in the parts so far
abbrev pub invariant-have_variables-loop-part : goal.invariant-have_variables-loop-part
invariant-have_variables-loop-part l =
    (number : ℕ) → l.start ≤ number → number < l.end → list_any (λ found. found) (map (has_variable number) (drop l.part-index l.parts)) ≡ false → list_any (λ found. found) (map (has_variable number) l.parts) ≡ false
