-- Effects with too many outcomes.
use Rattle.std.specs.Prelude.{◌≡◌, ℕ, ◌<◌, min, length, ⊤}
use Rattle.fond_text.specs.declared.code.TheConstants.{MOST_OUTCOMES}
use Rattle.fond_oneof.specs.declared.effect.GroundEffect.{GroundEffect}
use Rattle.fond_oneof.specs.declared.outcome.OneofFault.{OneofFault}
use Rattle.fond_oneof.specs.declared.outcome.OneofFault.TheVariants.{TooMany, NoMemory}
use Rattle.fond_oneof.specs.Outcomes.{outcome_lists}

-- an effect has more than 256 outcomes, and this is their number, or 1,000,000 if there are more
abbrev pub IsTooMany : GroundEffect → ℕ → Type 0
IsTooMany effect number = (MOST_OUTCOMES < length (outcome_lists effect)) × (number ≡ min (length (outcome_lists effect)) 1000000)

-- a fault reports a number of outcomes of which this holds; memory may run out at any time
abbrev pub OneofFails : (ℕ → Type 0) → OneofFault → Type 0
OneofFails holds (TooMany number) = holds number
OneofFails holds NoMemory = ⊤
