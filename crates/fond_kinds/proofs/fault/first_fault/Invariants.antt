use Rattle.std.proofs.Common.{◌<◌, ℕ}
use Rattle.fond_text.specs.Firsts.{IsFirst}
use Rattle.fond_kinds.specs.Tables.{IsFaultAt}
use Rattle.fond_kinds.proofs.fault.first_fault.Given as goal

-- the first fault of the declarations so far
abbrev pub invariant-loop-i : goal.invariant-loop-i
invariant-loop-i l = IsFirst (λ place code. (k : ℕ) × (k < l.i) × IsFaultAt l.table.types.now k place code) l.first
