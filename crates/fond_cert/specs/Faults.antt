-- The fault of a text that is no certificate, no table, or no certificate of least rank: its code and its byte.
use Rattle.std.specs.Prelude.{◌≡◌, ◌≢◌, ◌⊎◌, ℕ, ◌+◌, List, [], ◌∷◌, ◌++◌, Some, None, length, codes}
use Rattle.fond_cert.specs.declared.code.TheConstants.{OUT_OF_FORM}
use Rattle.fond_task.specs.declared.task.Task.{Task}
use Rattle.fond_form.specs.Forms.{Line, line_text, IsProper}
use Rattle.fond_form.specs.Feeds.{HasNoFeed}
use Rattle.fond_cert.specs.declared.due.Document.{Document}
use Rattle.fond_cert.specs.declared.due.Document.TheVariants.{Certificate, Table, Best}
use Rattle.fond_cert.specs.declared.due.Due.{Due}
use Rattle.fond_cert.specs.declared.due.Due.TheVariants.{Header as HeaderDue, Nothing as NothingDue}
use Rattle.fond_cert.specs.Sections.{due_after}
use Rattle.fond_cert.specs.Words.{line_refusal}
use Rattle.fond_cert.specs.Spellings.{lines_text}

-- lines lead from what is due before them to what is due after them: each is proper, allowed at its place and not
-- refused
abbrev pub Lead : Task → Due → List Line → Due → Type 0
Lead task due [] end = end ≡ due
Lead task due (line ∷ lines) end =
    IsProper line × (line_refusal task line ≡ None) × ((next : Due) × (due_after due line.kind ≡ Some next) × Lead task next lines end)

-- a piece of text has no form of a line that is allowed at its place
abbrev pub HasNoForm : Due → List ℕ → Type 0
HasNoForm due piece = (line : Line) (next : Due) → IsProper line → due_after due line.kind ≡ Some next → piece ≢ line_text line

-- a line is refused with a code at one of its bytes: as out of form at the first if it has no allowed form, or else by
-- its words or the order of its atoms
abbrev pub IsRefusedLine : Task → Due → List ℕ → ℕ → ℕ → Type 0
IsRefusedLine task due piece code at =
    (HasNoForm due piece × (code ≡ OUT_OF_FORM) × (at ≡ 0))
    ⊎ ((line : Line) × (next : Due) × IsProper line × (due_after due line.kind ≡ Some next) × (piece ≡ line_text line)
    × (line_refusal task line ≡ Some (record { code = code; at = at })))

-- the rest of a text is refused if a line is due: as out of form at its beginning if it has no line feed, or else by its
-- first line
abbrev pub IsRefusedRest : Task → Due → List ℕ → ℕ → ℕ → Type 0
IsRefusedRest task due rest code at =
    (HasNoFeed rest × (code ≡ OUT_OF_FORM) × (at ≡ 0))
    ⊎ ((piece : List ℕ) × (after : List ℕ) × (rest ≡ piece ++ (codes "\n" ++ after)) × HasNoFeed piece × IsRefusedLine task due piece code at)

-- the rest of a text is refused: as out of form at its first byte if nothing is due, or else by its first line
abbrev pub IsRefusedAt : Task → Due → List ℕ → ℕ → ℕ → Type 0
IsRefusedAt task NothingDue rest code at = (rest ≢ []) × (code ≡ OUT_OF_FORM) × (at ≡ 0)
IsRefusedAt task due rest code at = IsRefusedRest task due rest code at

-- a text that is to spell a document has a fault at a byte: after lines that are right, the rest is refused there
pub record IsFaultAs (document : Document) (task : Task) (text : List ℕ) (code byte : ℕ) : Type 0 where
  pub lines : List Line
  pub due : Due
  pub lead : Lead task (HeaderDue document) lines due
  pub rest : List ℕ
  pub split : text ≡ lines_text lines ++ rest
  pub at : ℕ
  pub refused : IsRefusedAt task due rest code at
  pub byte_is : byte ≡ length (lines_text lines) + at

-- a text that is no certificate has a fault at a byte
abbrev pub IsCertFault : Task → List ℕ → ℕ → ℕ → Type 0
IsCertFault = IsFaultAs Certificate

-- a text that is no table has a fault at a byte
abbrev pub IsTableFault : Task → List ℕ → ℕ → ℕ → Type 0
IsTableFault = IsFaultAs Table

-- a text that is no certificate of least rank has a fault at a byte
abbrev pub IsBestFault : Task → List ℕ → ℕ → ℕ → Type 0
IsBestFault = IsFaultAs Best
