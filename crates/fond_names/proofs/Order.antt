-- The first fault of three files is the first one of the first file that has any.
use Rattle.std.proofs.Common.{◌≡◌, ◌⊎◌, inl, inr, ℕ, ◌<◌, Some, None, refl, arith}
use Rattle.fond_text.specs.declared.first.Found.{Found}
use Rattle.fond_text.specs.declared.place.FileKind.{FileKind}
use Rattle.fond_text.specs.declared.place.FileKind.TheVariants as kind
use Rattle.fond_text.specs.declared.place.Place.{Place}
use Rattle.fond_text.specs.Faults.{IsNoLater, IsFirstAmong, AreClean, file_number}
use Rattle.fond_text.specs.Firsts.{IsFirst}

module _ (occurs : FileKind → Place → ℕ → Type 0) where
  pub first_in_domain : (found : Found) → IsFirst (occurs kind.Domain) (Some found) → IsFirstAmong occurs (record { file = kind.Domain; place = found.place; code = found.code })
  first_in_domain found h = record { there = h.one; first = later }
    where
      later : (file : FileKind) (place : Place) (code : ℕ) → occurs file place code → (0 < file_number file) ⊎ ((file ≡ kind.Domain) × IsNoLater found.place found.code place code)
      later kind.Domain place code o = inr (refl, h.covers place code o)
      later kind.Problem place code o = inl (omega arith)
      later kind.Side place code o = inl (omega arith)

  module _ (domain : IsFirst (occurs kind.Domain) None) where
    pub first_in_problem : (found : Found) → IsFirst (occurs kind.Problem) (Some found) → IsFirstAmong occurs (record { file = kind.Problem; place = found.place; code = found.code })
    first_in_problem found h = record { there = h.one; first = later }
      where
        later : (file : FileKind) (place : Place) (code : ℕ) → occurs file place code → (1 < file_number file) ⊎ ((file ≡ kind.Problem) × IsNoLater found.place found.code place code)
        later kind.Domain place code o = absurd (domain.covers place code o)
        later kind.Problem place code o = inr (refl, h.covers place code o)
        later kind.Side place code o = inl (omega arith)

    module _ (problem : IsFirst (occurs kind.Problem) None) where
      pub first_in_side : (found : Found) → IsFirst (occurs kind.Side) (Some found) → IsFirstAmong occurs (record { file = kind.Side; place = found.place; code = found.code })
      first_in_side found h = record { there = h.one; first = later }
        where
          later : (file : FileKind) (place : Place) (code : ℕ) → occurs file place code → (2 < file_number file) ⊎ ((file ≡ kind.Side) × IsNoLater found.place found.code place code)
          later kind.Domain place code o = absurd (domain.covers place code o)
          later kind.Problem place code o = absurd (problem.covers place code o)
          later kind.Side place code o = inr (refl, h.covers place code o)

      pub none_among : IsFirst (occurs kind.Side) None → AreClean occurs
      none_among none kind.Domain place code o = domain.covers place code o
      none_among none kind.Problem place code o = problem.covers place code o
      none_among none kind.Side place code o = none.covers place code o
