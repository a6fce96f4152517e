-- Lines that are read, with what a task makes of them.
use Rattle.std.specs.Prelude.{ℕ, List}
use Rattle.fond_task.specs.declared.task.Task.{Task}
use Rattle.fond_form.specs.declared.table.LineKind.{LineKind}
use Rattle.fond_form.specs.Forms.{form}
use Rattle.fond_cert.specs.Checked.{AllMean, AreFieldsRefused}
use Rattle.fond_cert.specs.Spellings.{Meanings}
use Rattle.fond_cert.specs.Words.{Refused}

-- a text is a proper line of a kind with this refusal
abbrev pub IsRefusedBy : Task → LineKind → List ℕ → Refused → Type 0
IsRefusedBy task kind text refused = AreFieldsRefused task 0 (form kind) text refused

-- a text is a proper line of a kind that is not refused, and has the text of the line that spells these meanings
abbrev pub IsMade : Task → (kind : LineKind) → List ℕ → Meanings (form kind) → Type 0
IsMade task kind text meanings = AllMean task 0 (form kind) text meanings
