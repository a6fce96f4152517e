use Rattle.std.proofs.Common.{◌≡◌, ℕ, false, drop}
use Rattle.std.specs.List.{list_any}
use Rattle.fond_ast.specs.Patterns.{is_variable}
use Rattle.fond_ground.specs.Shares.{is_marked}
use Rattle.fond_ground.proofs.parameters.mark_terms.Given as goal

-- a number without a mark had none before, and is that of none of the terms so far
abbrev pub invariant-loop-term : goal.invariant-loop-term
invariant-loop-term l = (number : ℕ) → is_marked l.marks number ≡ false → list_any (is_variable number) (drop l.term-index l.terms) ≡ false
    → (is_marked l.initial.marks number ≡ false) × (list_any (is_variable number) l.terms ≡ false)
