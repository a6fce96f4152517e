-- The header of one document is out of form as that of another.
use Rattle.std.proofs.Common.{◌≡◌, inl, inr, List, [], ◌∷◌, None, codes, refl, append_assoc}
use Rattle.fond_task.specs.declared.task.Task.{Task}
use Rattle.fond_policy.specs.declared.best.BestCert.{BestCert}
use Rattle.fond_policy.specs.declared.cert.Cert.{Cert}
use Rattle.fond_policy.specs.declared.cert.Cert.TheVariants.{Policy, Refusal, Covered}
use Rattle.fond_rules.specs.declared.table.TableRow.{TableRow}
use Rattle.fond_form.specs.Forms.{Line, line_text, IsProper}
use Rattle.fond_form.proofs.FeedSplits.{line_no_feed}
use Rattle.fond_cert.specs.declared.code.TheConstants.{OUT_OF_FORM}
use Rattle.fond_cert.specs.declared.due.Document.{Document}
use Rattle.fond_cert.specs.declared.due.Document.TheVariants.{Certificate, Table, Best}
use Rattle.fond_cert.specs.declared.due.Due.TheVariants.{Header as HeaderDue}
use Rattle.fond_cert.specs.declared.due.Evidence.TheVariants.{Reach as ByReach, Cover as ByCover}
use Rattle.fond_cert.specs.declared.due.Kind.TheVariants.{Policy as OfPolicy, Refusal as OfRefusal, Table as OfTable, Best as OfBest}
use Rattle.fond_cert.specs.Faults.{IsFaultAs, IsCertFault, IsTableFault, IsBestFault}
use Rattle.fond_cert.specs.Sections.{due_after}
use Rattle.fond_cert.specs.Spellings.{header, lines_text, spelling, table_spelling, best_spelling}
use Rattle.fond_cert.proofs.Wholes.{not_allowed}

-- a text is out of form at its first byte if it begins with a proper line that no document of this sort begins with
first_fault : (document : Document) (task : Task) (line : Line) (lines : List Line) → IsProper line → due_after (HeaderDue document) line.kind ≡ None → IsFaultAs document task (lines_text (line ∷ lines)) OUT_OF_FORM 0
first_fault document task line lines right none = record {
  lines = [];
  due = HeaderDue document;
  lead = refl;
  rest = lines_text (line ∷ lines);
  split = refl;
  at = 0;
  refused = inr (line_text line, lines_text lines, append_assoc (line_text line) (codes "\n") (lines_text lines), line_no_feed line right, inl (not_allowed (HeaderDue document) (line_text line) line.kind (line.values, right, refl) none, refl, refl));
  byte_is = refl;
}

pub cert_no_table : (task : Task) (cert : Cert) → IsTableFault task (spelling task cert) OUT_OF_FORM 0
cert_no_table task (Policy layers pairs rules reach) = first_fault Table task (header task (OfPolicy ByReach)) _ (tt, tt) refl
cert_no_table task (Refusal layers) = first_fault Table task (header task OfRefusal) _ (tt, tt) refl
cert_no_table task (Covered layers pairs rules items start) = first_fault Table task (header task (OfPolicy ByCover)) _ (tt, tt) refl

pub table_no_cert : (task : Task) (rows : List TableRow) → IsCertFault task (table_spelling task rows) OUT_OF_FORM 0
table_no_cert task rows = first_fault Certificate task (header task OfTable) _ (tt, tt) refl

pub cert_no_best : (task : Task) (cert : Cert) → IsBestFault task (spelling task cert) OUT_OF_FORM 0
cert_no_best task (Policy layers pairs rules reach) = first_fault Best task (header task (OfPolicy ByReach)) _ (tt, tt) refl
cert_no_best task (Refusal layers) = first_fault Best task (header task OfRefusal) _ (tt, tt) refl
cert_no_best task (Covered layers pairs rules items start) = first_fault Best task (header task (OfPolicy ByCover)) _ (tt, tt) refl

pub table_no_best : (task : Task) (rows : List TableRow) → IsBestFault task (table_spelling task rows) OUT_OF_FORM 0
table_no_best task rows = first_fault Best task (header task OfTable) _ (tt, tt) refl

pub best_no_other : (task : Task) (cert : BestCert) → IsCertFault task (best_spelling task cert) OUT_OF_FORM 0 × IsTableFault task (best_spelling task cert) OUT_OF_FORM 0
best_no_other task cert = (first_fault Certificate task (header task OfBest) _ (tt, tt) refl, first_fault Table task (header task OfBest) _ (tt, tt) refl)
