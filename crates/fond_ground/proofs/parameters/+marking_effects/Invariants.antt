use Rattle.std.proofs.Common.{◌≡◌, ℕ, false, map, drop}
use Rattle.std.specs.List.{list_any}
use Rattle.fond_ground.specs.Shares.{has_effect_variable, is_marked}
use Rattle.fond_ground.proofs.parameters.+marking_effects.Given as goal

-- a number without a mark had none before, and occurs in none of the parts so far
abbrev pub invariant-mark_effects-loop-part : goal.invariant-mark_effects-loop-part
invariant-mark_effects-loop-part l = (number : ℕ) → is_marked l.marks number ≡ false → list_any (λ found. found) (map (has_effect_variable number) (drop l.part-index l.parts)) ≡ false
    → (is_marked l.initial.marks number ≡ false) × (list_any (λ found. found) (map (has_effect_variable number) l.parts) ≡ false)
