use Rattle.std.proofs.Common.{◌≡◌, ℕ, false, map, drop}
use Rattle.std.specs.List.{list_any}
use Rattle.fond_ast.specs.Laws.{has_variable}
use Rattle.fond_ground.specs.Shares.{is_marked}
use Rattle.fond_ground.proofs.parameters.+marking.Given as goal

-- a number without a mark had none before, and occurs in none of the parts so far
abbrev pub invariant-mark_conditions-loop-part : goal.invariant-mark_conditions-loop-part
invariant-mark_conditions-loop-part l = (number : ℕ) → is_marked l.marks number ≡ false → list_any (λ found. found) (map (has_variable number) (drop l.part-index l.parts)) ≡ false
    → (is_marked l.initial.marks number ≡ false) × (list_any (λ found. found) (map (has_variable number) l.parts) ≡ false)
