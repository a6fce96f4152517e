-- The first of several faults, and the earlier of two.
use Rattle.std.specs.Prelude.{◌≡◌, ◌⊎◌, ℕ, Option, Some, None, IfSome}
use Rattle.fond_text.specs.declared.place.Place.{Place}
use Rattle.fond_text.specs.declared.first.Found.{Found}
use Rattle.fond_text.specs.Faults.{IsNoLater}

-- a fault was found, and it is no later than this one
abbrev pub Covers : Option Found → Place → ℕ → Type 0
Covers None place code = ⊥
Covers (Some found) place code = IsNoLater found.place found.code place code

-- the first of some faults was found, or nothing was found because there is no fault
pub record IsFirst (occurs : Place → ℕ → Type 0) (first : Option Found) : Type 0 where
  pub one : IfSome first (λ found. occurs found.place found.code)
  pub covers : (place : Place) (code : ℕ) → occurs place code → Covers first place code

-- the earlier of two faults, either of which may be missing: it is one of the two, and no later than any fault that one of
-- them is no later than
pub record IsEarlier (one other first : Option Found) : Type 0 where
  pub from : (first ≡ one) ⊎ (first ≡ other)
  pub covers_one : (place : Place) (code : ℕ) → Covers one place code → Covers first place code
  pub covers_other : (place : Place) (code : ℕ) → Covers other place code → Covers first place code
