-- Bytes on their way to a sink through a pen.
use Rattle.std.specs.Prelude.{◌≡◌, ℕ, ◌⊎◌, ◌≤◌, List, ◌++◌, Option, true, false}
use Rattle.fond_edge.specs.Faults.{Rose}
use Rattle.fond_edge.specs.Written.{Appended, AppendedPart}
use Rattle.fond_edge.specs.PenState.{PenState}

-- a sink and a pen together: what was written to the sink, its number of faults, and the state of the pen
pub record Flow : Type 0 where
  pub written : Option (List ℕ)
  pub faults : ℕ
  pub pen : PenState

-- the flow of a sink with this text and this number of faults and a pen in this state
abbrev pub flow : Option (List ℕ) → ℕ → PenState → Flow
flow written faults pen = record { written = written; faults = faults; pen = pen }

-- all of `bytes` were put, and the pen has not failed: what was written in between, followed by what is pending after, is
-- what was pending before, followed by `bytes`; the number of faults is no smaller
pub record IsPut (before after : Flow) (bytes : List ℕ) : Type 0 where
  pub front : List ℕ
  pub appended : Appended before.written after.written front
  pub split : front ++ after.pen.pending ≡ before.pen.pending ++ bytes
  pub was_sound : before.pen.failed ≡ false
  pub is_sound : after.pen.failed ≡ false
  pub counted : before.faults ≤ after.faults

-- the pen has failed. If it had not failed before, a fault of the sink occurred, and a proper prefix of what was pending before,
-- followed by `bytes`, was written. If it had failed before, nothing was written. The number of faults is no smaller
pub record IsLost (before after : Flow) (bytes : List ℕ) : Type 0 where
  pub failed : after.pen.failed ≡ true
  pub part : before.pen.failed ≡ false → AppendedPart before.written after.written (before.pen.pending ++ bytes)
  pub rose : before.pen.failed ≡ false → Rose before.faults after.faults
  pub still : before.pen.failed ≡ true → after.written ≡ before.written
  pub counted : before.faults ≤ after.faults

-- all of the bytes were put, or the pen has failed
abbrev pub Adds : Flow → Flow → List ℕ → Type 0
Adds before after bytes = IsPut before after bytes ⊎ IsLost before after bytes

-- the pen and the sink are those of before, by their names, and these bytes were added
abbrev pub Writes : {P S : Type 0} → P → P → S → S → Flow → Flow → List ℕ → Type 0
Writes pen same_pen sink same_sink before after bytes = (pen ≡ same_pen) × (sink ≡ same_sink) × Adds before after bytes
