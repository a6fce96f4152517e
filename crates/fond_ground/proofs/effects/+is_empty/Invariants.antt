use Rattle.std.proofs.Common.{◌≡◌, ℕ, List, map, drop}
use Rattle.fond_text.specs.Lists.{concatenations}
use Rattle.fond_ast.specs.Outcomes.{outcomes}
use Rattle.fond_ground.proofs.effects.+is_empty.Given as goal

abbrev pub decreases-is_empty : goal.decreases-is_empty
decreases-is_empty l = goal.size-is_empty l

-- the members so far change nothing
abbrev pub invariant-loop-member : goal.invariant-loop-member
invariant-loop-member l = (env : List ℕ) → concatenations (map (outcomes env) (drop l.member-index l.member-items)) ≡ outcomes env l.effect
