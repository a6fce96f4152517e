-- How far a text was read.
use Rattle.std.specs.Prelude.{◌≡◌, ℕ, ◌+◌, List, Option, Some, None, map}
use Rattle.std.specs.Option.{option_map_or}
use Rattle.fond_task.specs.declared.task.Task.{Task}
use Rattle.fond_policy.specs.declared.best.BestCert.{BestCert}
use Rattle.fond_policy.specs.declared.cert.Cert.{Cert}
use Rattle.fond_policy.specs.declared.item.Item.{Item}
use Rattle.fond_policy.specs.declared.cert.Cert.TheVariants.{Policy, Refusal, Covered}
use Rattle.fond_cert.specs.declared.draft.Draft.{Draft}
use Rattle.fond_cert.specs.declared.due.Document.{Document}
use Rattle.fond_cert.specs.declared.due.Due.{Due}
use Rattle.fond_cert.specs.declared.error.CertError.{CertError}
use Rattle.fond_cert.specs.declared.error.CertError.TheVariants.{Refused as RefusedText, NoMemory as WithoutMemory}
use Rattle.fond_cert.specs.declared.error.LineError.{LineError}
use Rattle.fond_cert.specs.declared.error.LineError.TheVariants.{Refused as RefusedLine, NoMemory}
use Rattle.fond_form.specs.declared.table.LineKind.{LineKind}
use Rattle.fond_form.specs.Forms.{Line}
use Rattle.fond_cert.specs.Drafts.{IsDraftOf, IsGrown, FitsDue}
use Rattle.fond_cert.specs.Sections.{due_after, taker}
use Rattle.fond_cert.specs.Spellings.{Content, document_of, parts_of, content_lines, lines_text}

-- a draft belongs to a task and fits what is due, in some document
abbrev pub IsReady : Task → Due → Draft → Type 0
IsReady task due draft = IsDraftOf task draft × ((document : Document) × (lines : List Line) × FitsDue document task due draft lines)

-- a piece of text is a line that is allowed, after which this is due, and which makes one draft of another
abbrev pub IsTaken : Task → Due → Draft → List ℕ → Due → Draft → Type 0
IsTaken task due before piece next after =
    (kind : LineKind) × (due_after due kind ≡ Some next) × IsGrown task (taker next) kind piece before after

-- a text is that of a content of this document whose parts a draft has
abbrev pub IsWhole : Document → Task → List ℕ → Draft → Type 0
IsWhole document task text draft = (content : Content) × (draft ≡ parts_of content) × (text ≡ lines_text (content_lines task content)) × (document_of content ≡ document)

-- the certificate of a draft with this reach number, or else with this start number, or else the refusal
abbrev pub cert_by : Draft → Option ℕ → Option ℕ → Cert
cert_by draft (Some reach) start = Policy draft.layers draft.pairs draft.rules reach
cert_by draft None (Some start) = Covered draft.layers draft.pairs draft.rules draft.items start
cert_by draft None None = Refusal draft.layers

-- the certificate of a draft
abbrev pub cert_of : Draft → Cert
cert_of draft = cert_by draft draft.reach draft.start

-- the certificate of least rank of a draft with this start number
abbrev pub best_with : Draft → ℕ → BestCert
best_with draft start = record {
  layers = draft.layers;
  rules = draft.rules;
  items = map (λ (entry : Item × ℕ). entry.0) draft.ranked;
  ranks = map (λ (entry : Item × ℕ). entry.1) draft.ranked;
  start = start;
  far = draft.far;
}

-- the certificate of least rank of a draft, whose start number is 0 if it has none
abbrev pub best_of : Draft → BestCert
best_of draft = best_with draft (option_map_or (λ (start : ℕ). start) draft.start 0)

-- the error of a text is that of its line which begins at this byte
abbrev pub IsPlaced : ℕ → LineError → CertError → Type 0
IsPlaced start (RefusedLine code byte) error = error ≡ RefusedText code (start + byte)
IsPlaced start NoMemory error = error ≡ WithoutMemory
