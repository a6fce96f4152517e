-- The laws of the texts of certificates, of tables and of certificates of least rank.
use Rattle.std.specs.Prelude.{◌≡◌, ℕ, ◌<◌, ◌^◌, List, length}
use Rattle.fond_task.specs.declared.task.Task.{Task}
use Rattle.fond_policy.specs.declared.best.BestCert.{BestCert}
use Rattle.fond_policy.specs.declared.cert.Cert.{Cert}
use Rattle.fond_policy.specs.Belongs.{Belongs, BelongsAsBest}
use Rattle.fond_rules.specs.declared.table.TableRow.{TableRow}
use Rattle.fond_rules.specs.Tables.{BelongAsRows}
use Rattle.fond_cert.specs.declared.code.TheConstants.{OUT_OF_FORM}
use Rattle.fond_cert.specs.declared.due.Document.{Document}
use Rattle.fond_cert.specs.Faults.{IsFaultAs, IsCertFault, IsTableFault, IsBestFault}
use Rattle.fond_cert.specs.Smalls.{HasSmallBest}
use Rattle.fond_policy.specs.Sizes.{HasSmallNumbers}
use Rattle.fond_cert.specs.Spellings.{spelling, table_spelling, best_spelling}

-- certificates of a task that are spelled the same are the same, if their numbers fit their types
abbrev pub SpellingsDiffer : Type 0
SpellingsDiffer =
    (task : Task) (cert other : Cert) → Belongs task cert → Belongs task other → HasSmallNumbers cert → HasSmallNumbers other → spelling task cert ≡ spelling task other → cert ≡ other

-- the spelling of a certificate of a task has no fault, if its numbers fit their types
abbrev pub SpellingsAreClean : Type 0
SpellingsAreClean = (task : Task) (cert : Cert) (code byte : ℕ) → Belongs task cert → HasSmallNumbers cert → ¬ IsCertFault task (spelling task cert) code byte

-- a text has one fault at most as each document
abbrev pub FaultsAreOne : Type 0
FaultsAreOne =
    (document : Document) (task : Task) (text : List ℕ) (code byte other other_byte : ℕ) → IsFaultAs document task text code byte → IsFaultAs document task text other other_byte → (code ≡ other) × (byte ≡ other_byte)

-- tables of a task that are spelled the same are the same
abbrev pub TablesDiffer : Type 0
TablesDiffer = (task : Task) (rows others : List TableRow) → BelongAsRows task rows → BelongAsRows task others → table_spelling task rows ≡ table_spelling task others → rows ≡ others

-- the spelling of a table of a task has no fault, if the table has fewer than 2^32 rows
abbrev pub TablesAreClean : Type 0
TablesAreClean = (task : Task) (rows : List TableRow) (code byte : ℕ) → BelongAsRows task rows → length rows < 2 ^ 32 → ¬ IsTableFault task (table_spelling task rows) code byte

-- certificates of least rank of a task that are spelled the same are the same, if their numbers fit their types
abbrev pub BestsDiffer : Type 0
BestsDiffer =
    (task : Task) (cert other : BestCert) → BelongsAsBest task cert → BelongsAsBest task other → HasSmallBest cert → HasSmallBest other → best_spelling task cert ≡ best_spelling task other → cert ≡ other

-- the spelling of a certificate of least rank of a task has no fault, if its numbers fit their types
abbrev pub BestsAreClean : Type 0
BestsAreClean = (task : Task) (cert : BestCert) (code byte : ℕ) → BelongsAsBest task cert → HasSmallBest cert → ¬ IsBestFault task (best_spelling task cert) code byte

-- as a table, the spelling of a certificate is out of form at its first byte, and so is that of a table as a certificate
abbrev pub DocumentsDiffer : Type 0
DocumentsDiffer =
    ((task : Task) (cert : Cert) → IsTableFault task (spelling task cert) OUT_OF_FORM 0)
    × ((task : Task) (rows : List TableRow) → IsCertFault task (table_spelling task rows) OUT_OF_FORM 0)

-- as a certificate of least rank, the spelling of a certificate or a table is out of form at its first byte, and so is that of a
-- certificate of least rank as a certificate or a table
abbrev pub BestsAreApart : Type 0
BestsAreApart =
    ((task : Task) (cert : Cert) → IsBestFault task (spelling task cert) OUT_OF_FORM 0) × ((task : Task) (rows : List TableRow) → IsBestFault task (table_spelling task rows) OUT_OF_FORM 0)
    × ((task : Task) (cert : BestCert) → IsCertFault task (best_spelling task cert) OUT_OF_FORM 0 × IsTableFault task (best_spelling task cert) OUT_OF_FORM 0)
