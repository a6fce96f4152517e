-- The first of the faults of a file, or of several files, and refusals.
use Rattle.std.specs.Prelude.{◌≡◌, ◌⊎◌, ℕ, ◌<◌, ◌≤◌, ⊤}
use Rattle.fond_text.specs.declared.fault.Fault.{Fault}
use Rattle.fond_text.specs.declared.fault.FrontError.{FrontError}
use Rattle.fond_text.specs.declared.fault.FrontError.TheVariants.{Refused, NoMemory}
use Rattle.fond_text.specs.declared.place.FileKind.{FileKind}
use Rattle.fond_text.specs.declared.place.FileKind.TheVariants as kind
use Rattle.fond_text.specs.declared.place.Place.{Place}
use Rattle.fond_text.specs.Places.{IsBefore}

-- an error that refuses a file reports a fault of which this holds; memory may run out at any time
abbrev pub Refuses : (Fault → Type 0) → FrontError → Type 0
Refuses holds (Refused fault) = holds fault
Refuses holds NoMemory = ⊤

-- one fault comes before another or is the same: by place, and at one place by code
abbrev pub IsNoLater : Place → ℕ → Place → ℕ → Type 0
IsNoLater place code other number = IsBefore place other ⊎ ((place ≡ other) × (code ≤ number))

-- a fault occurs at this place with this code, and none occurs earlier
abbrev pub IsLeast : (Place → ℕ → Type 0) → Place → ℕ → Type 0
IsLeast occurs place code = occurs place code × ((other : Place) (number : ℕ) → occurs other number → IsNoLater place code other number)

-- a fault is the least one of a file
abbrev pub IsLeastIn : FileKind → (Place → ℕ → Type 0) → Fault → Type 0
IsLeastIn file occurs fault = (fault.file ≡ file) × IsLeast occurs fault.place fault.code

-- no fault occurs
abbrev pub IsClean : (Place → ℕ → Type 0) → Type 0
IsClean occurs = (place : Place) (code : ℕ) → ¬ occurs place code

-- the rank of a file in the order in which faults are reported
abbrev pub file_number : FileKind → ℕ
file_number kind.Domain = 0
file_number kind.Problem = 1
file_number kind.Side = 2

-- no fault occurs in any file
abbrev pub AreClean : (FileKind → Place → ℕ → Type 0) → Type 0
AreClean occurs = (file : FileKind) → IsClean (occurs file)

-- a fault is the first one of several files: by file, then by place, then by code
pub record IsFirstAmong (occurs : FileKind → Place → ℕ → Type 0) (fault : Fault) : Type 0 where
  pub there : occurs fault.file fault.place fault.code
  pub first :
      (file : FileKind) (place : Place) (code : ℕ) → occurs file place code
      → (file_number fault.file < file_number file) ⊎ ((file ≡ fault.file) × IsNoLater fault.place fault.code place code)
